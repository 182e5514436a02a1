-- What the one worker's seat tells, all seats tell.
use Rattle.std.proofs.lemmas.Result.{on_ok_weaker}
use Rattle.ff_tasks.proofs.Serves.{Serves-at, Stay-at}
use Rattle.ff_tasks.proofs.serving.collect_at.Goals as goal

pub returns-clause-serves : goal.returns-clause-serves
returns-clause-serves g c = on_ok_weaker c.collect_from.result
    (λ serves. Serves-at g.S.Scheduler.does c.args.w c.args.master.now c.args.seats.now.items c.index_mut.result.now c.collect_from.new.master c.collect_from.new.seat c.requires.worker
    c.index_mut.ensures.value serves)
    c.collect_from.ensures.serves

pub returns-clause-stay : goal.returns-clause-stay
returns-clause-stay g c = Stay-at c.args.seats.now.items c.args.w c.index_mut.result.now c.collect_from.new.seat c.requires.worker c.index_mut.ensures.value
    c.collect_from.ensures.link c.collect_from.ensures.told
