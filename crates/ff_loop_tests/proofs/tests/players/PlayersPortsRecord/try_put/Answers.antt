-- A put at ports that tell nothing.
use Rattle.std.proofs.Common.{[], ◌∷◌, ◌++◌, slice_set, arith, refl, ap, ◌∙◌}
use Rattle.std.proofs.lemmas.List.{get_or_read}
use Rattle.ff_test_ports.proofs.Nothing.{nothing, nothing-set, OthersStay-nothing}
use Rattle.ff_loop_tests.proofs.tests.players.PlayersPortsRecord.try_put.Goals as goal

pub returns-then-is_err-clause-puts : goal.returns-then-is_err-clause-puts
returns-then-is_err-clause-puts c =
    let puts = c.args.self.now.put.items in (refl, refl, nothing puts c.args.k, nothing puts c.args.k)

pub returns-clause-puts : goal.returns-clause-puts
returns-clause-puts c =
    let puts = c.args.self.now.put.items in
    let none = nothing puts c.args.k in (
      ap (slice_set puts c.args.k)
          (c.note.ensures ∙ ap (λ ms. ms ++ c.args.m ∷ []) (get_or_read puts c.args.k c.index_mut.result.now c.requires.within c.index_mut.ensures.value [])),
      omega (arith, none),
    )

pub returns-clause-others : goal.returns-clause-others
returns-clause-others c =
    let puts = c.args.self.now.put.items in OthersStay-nothing puts _ c.args.k (nothing-set puts c.args.k c.note.new.self)
