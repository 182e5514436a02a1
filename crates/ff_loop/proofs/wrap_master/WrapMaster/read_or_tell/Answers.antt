use Rattle.std.proofs.Common.{◌∙◌, inl, inr, false, sym, ap, slice_set}
use Rattle.ff_rec.specs.declared.msg.Msg.TheVariants.{Eos as EosMsg}
use Rattle.ff_unit.specs.Closing.{any_live}
use Rattle.ff_unit.specs.Deals.{on_outs}
use Rattle.ff_loop.specs.Rounds.{workers_of}
use Rattle.ff_loop.proofs.NextSteps.{ReadsOn-same, TellsWorkers-told}
use Rattle.ff_loop.proofs.wrap_master.WrapMaster.read_or_tell.Goals as goal

pub returns-then-any : goal.returns-then-any
returns-then-any c = inr (ReadsOn-same _ c.args.self.now c.self.view_is c.requires.sized (sym c.any.ensures ∙ c.if-any.true))

pub returns : goal.returns
returns c =
    let none = sym c.any.ensures ∙ c.if-any.false in
    let none_now = sym (ap (λ u. any_live u.live) c.self.view_is) ∙ none in
    inl (TellsWorkers-told _ c.args.self.now c.self.view_is c.requires.sized c.close.new.self c.on_all.result none (c.requires.none_left none_now) c.requires.no_result
    (c.close.ensures ∙ ap (λ l. slice_set l 0 false) c.open_all.ensures)
    (c.on_all.ensures ∙ ap (λ n. on_outs 0 n EosMsg) (c.workers.ensures ∙ ap (λ u. workers_of u.round) c.self.view_is)))
