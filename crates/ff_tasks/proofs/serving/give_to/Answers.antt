-- What the one worker's seat tells, all seats tell.
use Rattle.std.proofs.lemmas.Result.{on_ok_weaker}
use Rattle.ff_tasks.proofs.Serves.{Serves-at, Stay-at, open-at}
use Rattle.ff_tasks.proofs.serving.give_to.Goals as goal

pub returns-clause-serves : goal.returns-clause-serves
returns-clause-serves g c = on_ok_weaker c.give.result
    (λ serves. Serves-at g.S.Scheduler.does c.args.w c.args.master.now c.args.seats.now.items c.index_mut.result.now c.give.new.master c.give.new.self c.requires.worker
    c.index_mut.ensures.value serves)
    c.give.ensures.serves

pub returns-clause-stay : goal.returns-clause-stay
returns-clause-stay g c = Stay-at c.args.seats.now.items c.args.w c.index_mut.result.now c.give.new.self c.requires.worker c.index_mut.ensures.value
    c.give.ensures.link c.give.ensures.told

pub give-requires-clause-open : goal.give-requires-clause-open
give-requires-clause-open g c = open-at c.args.seats.now.items c.args.w c.index_mut.result.now c.requires.worker c.index_mut.ensures.value c.requires.served.untold
