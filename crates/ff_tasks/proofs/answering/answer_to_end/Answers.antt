-- The end was told, or that it was cut off.
use Rattle.std.proofs.Common.{refl, sym, ap, subst, ◌∙◌}
use Rattle.ff_port.specs.declared.answers.End.TheVariants.{Eos as EndEos}
use Rattle.ff_rec.specs.declared.msg.Msg.TheVariants.{Eos, Abort}
use Rattle.ff_ring.specs.Ends.{got_of, put_of}
use Rattle.ff_tasks.specs.Jobs.{HasStopped}
use Rattle.ff_tasks.proofs.Kept.{HasEnded-closed, HasEnded-cut, counted-same, first-stopped}
use Rattle.ff_tasks.proofs.answering.answer_to_end.Goals as goal

pub returns-in-Eos-clause-count : goal.returns-in-Eos-clause-count
returns-in-Eos-clause-count g c =
    counted-same (put_of c.answer_all-end.new.answers) (put_of c.put_last.new.out) Eos c.answer_all-end.new.answered c.put_last.ensures.put refl c.answer_all-end.ensures.count

pub returns-in-Eos-clause-ended : goal.returns-in-Eos-clause-ended
returns-in-Eos-clause-ended g c =
    let f = g.H.Handler.answers c.args.handler.now in
    let stopped = subst (λ e. HasStopped f e (got_of c.answer_all-end.new.tasks) (put_of c.answer_all-end.new.answers)) c.in-Eos.is c.answer_all-end.ensures.stopped in
    HasEnded-closed f (got_of c.answer_all-end.new.tasks) (got_of c.answer_all-end.new.tasks) stopped.0.0 (put_of c.answer_all-end.new.answers) (put_of c.put_last.new.out)
    stopped.0.1 stopped.1 c.put_last.ensures.put refl

pub returns-clause-count : goal.returns-clause-count
returns-clause-count g c =
    counted-same (put_of c.answer_all-end.new.answers) (put_of c.cut_off.new.answers) Abort c.answer_all-end.new.answered c.cut_off.ensures.put refl c.answer_all-end.ensures.count

pub returns-clause-ended : goal.returns-clause-ended
returns-clause-ended g c =
    let f = g.H.Handler.answers c.args.handler.now in
    HasEnded-cut f (got_of c.answer_all-end.new.tasks) (got_of c.cut_off.new.tasks) (put_of c.answer_all-end.new.answers) (put_of c.cut_off.new.answers)
    (first-stopped f c.answer_all-end.result (got_of c.answer_all-end.new.tasks) (put_of c.answer_all-end.new.answers) c.answer_all-end.ensures.stopped)
    c.cut_off.ensures.put c.cut_off.ensures.got
