-- The places of the two fields, the first before the second.
use Rattle.std.proofs.Common.{ap, ◌∙◌, arith}
use Rattle.ff_rec.specs.Lines.{cut}
use Rattle.ff_rec.specs.Stored.{Stored}
use Rattle.ff_rec.proofs.Swaps.{apart, cut-swapped}
use Rattle.ff_rec.proofs.block.edits.exchange_ordered.Goals as goal

pub swap-requires-clause-apart : goal.swap-requires-clause-apart
swap-requires-clause-apart c =
    omega (
      arith,
      apart c.args.block.now.items c.args.i c.place-first.result.0 c.place-first.result.1 c.args.j c.place-second.result.0 c.place-second.result.1
          c.place-first.ensures c.place-second.ensures c.requires.order c.requires.there,
    )

pub returns-clause-fields : goal.returns-clause-fields
returns-clause-fields c =
    ap (λ (b : Stored). cut 9 b.items) c.swap.ensures
    ∙ cut-swapped c.args.block.now.items c.args.i c.place-first.result.0 c.place-first.result.1 c.args.j c.place-second.result.0 c.place-second.result.1
    c.place-first.ensures c.place-second.ensures c.requires.order c.requires.there
