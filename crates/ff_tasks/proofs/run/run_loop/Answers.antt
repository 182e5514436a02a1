-- What came was right, since the threads are joined.
use Rattle.std.proofs.Common.{◌≤◌, length, vec_capacity, sym, ap, subst, ◌∙◌, arith}
use Rattle.std.proofs.lemmas.Result.{IfOk-at_ok}
use Rattle.ff_spawn.specs.Counts.{RoseBy}
use Rattle.ff_tasks.specs.Crews.{IsManned, came, handlers_of}
use Rattle.ff_tasks.specs.Loops.{AllAnswer}
use Rattle.ff_tasks.specs.Serving.{WorksOff}
use Rattle.ff_tasks.proofs.Loops.{LoopRan-finished, KeepsAnswers-finished}
use Rattle.ff_tasks.proofs.run.run_loop.Goals as goal

pub finish-requires-clause-none : goal.finish-requires-clause-none
finish-requires-clause-none g c κs within = ap (λ v. v.items) c.work-answer.ensures.jobs ∙ c.in_ok-crew.ensures.none

pub finish-requires-clause-room : goal.finish-requires-clause-room
finish-requires-clause-room g c κs within = omega (
  arith,
  c.in_ok-crew.ensures.room,
  ap (λ r. length r.jobs) c.work-answer.ensures.running,
  ap (λ v. vec_capacity v) c.work-answer.ensures.jobs,
)

pub returns-in-Ok-clause-ran : goal.returns-in-Ok-clause-ran
returns-in-Ok-clause-ran g c =
    let jobs = c.in_ok-crew.crew.running.jobs in
    let same = ap (λ r. r.jobs) c.work-answer.ensures.running in
    let works = IfOk-at_ok (λ s. WorksOff g.S.Scheduler.does c.args.scheduler s c.in_ok-crew.crew.seats.items c.work-answer.new.self.seats.items) c.in-Ok.is
    c.work-answer.ensures.works in
    LoopRan-finished g.S.Scheduler.does g.H.Handler.answers c.args.handlers.items jobs c.args.scheduler c.in-Ok.served c.in_ok-crew.crew.seats.items
    c.work-answer.new.self.seats.items c.in_ok-crew.ensures.handlers c.in_ok-crew.ensures.manned
    (subst (λ js. IsManned c.work-answer.new.self.seats.items js) same c.work-answer.ensures.manned)
    c.in_ok-crew.ensures.fresh works
    (λ f all. c.finish.ensures.sound f (subst (λ js. AllAnswer g.H.Handler.answers f (handlers_of js)) (sym same) all))
    (g.P.Refusals.worked c.args.spawner.now) (g.P.Refusals.worked c.finish.new.by)
    (subst (λ n. RoseBy (came c.work-answer.new.self.seats.items) n (g.P.Refusals.worked c.finish.new.by)) c.in_ok-crew.ensures.worked c.finish.ensures.work)

pub returns-in-Ok-clause-answers : goal.returns-in-Ok-clause-answers
returns-in-Ok-clause-answers g c =
    let jobs = c.in_ok-crew.crew.running.jobs in
    let same = ap (λ r. r.jobs) c.work-answer.ensures.running in
    let works = IfOk-at_ok (λ s. WorksOff g.S.Scheduler.does c.args.scheduler s c.in_ok-crew.crew.seats.items c.work-answer.new.self.seats.items) c.in-Ok.is
    c.work-answer.ensures.works in
    KeepsAnswers-finished g.S.Scheduler.does g.H.Handler.answers c.args.handlers.items jobs c.args.scheduler c.in-Ok.served c.in_ok-crew.crew.seats.items
    c.work-answer.new.self.seats.items c.in_ok-crew.ensures.handlers c.in_ok-crew.ensures.manned
    (subst (λ js. IsManned c.work-answer.new.self.seats.items js) same c.work-answer.ensures.manned)
    c.in_ok-crew.ensures.fresh works
    (λ f all. c.finish.ensures.sound f (subst (λ js. AllAnswer g.H.Handler.answers f (handlers_of js)) (sym same) all))
