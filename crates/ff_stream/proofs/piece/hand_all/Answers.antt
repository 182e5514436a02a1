-- A record more was handed over, or the work broke off at it.
use Rattle.std.proofs.Common.{◌∙◌}
use Rattle.std.proofs.lemmas.Result.{err_from_is_err_and}
use Rattle.ff_stream.proofs.Readings.{Hands-more, Halts-hands}
use Rattle.ff_stream.proofs.piece.hand_all.Goals as goal

pub loop-r-preserved : goal.loop-r-preserved
loop-r-preserved g c = record {
  hands = Hands-more g.W.Intake.stands c.args.work.now c.loop-r.work c.take.new.self c.args.queue.now.items c.loop-r.queue.items c.pop_front.new.self.items c.in-Some.r _ _ _
      c.loop-r.invariant.hands c.in-Some.ensures.items c.in_ok-take.ensures.ok;
  silent = c.in_ok-take.ensures.counts ∙ c.loop-r.invariant.silent;
}

pub returns-in_err-take-clause-err : goal.returns-in_err-take-clause-err
returns-in_err-take-clause-err g c =
    let p = err_from_is_err_and c.from_residual.result c.from_residual.ensures.1 in
    rw (p.1, p.2)
    (Halts-hands g.W.Intake.stands g.W.Intake.halted c.args.work.now c.loop-r.work c.take.new.self c.args.queue.now.items c.loop-r.queue.items c.pop_front.new.self.items c.in-Some.r c.in_err-take.field-0.0 _ _ _
    c.loop-r.invariant.hands c.in-Some.ensures.items c.in_err-take.ensures.err)
