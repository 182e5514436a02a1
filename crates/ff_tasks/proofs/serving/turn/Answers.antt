-- What came, and then what was given.
use Rattle.ff_tasks.proofs.Serves.{IsServed-next, Serves-trans, Stay-trans}
use Rattle.ff_tasks.proofs.serving.turn.Goals as goal

pub give_all-requires : goal.give_all-requires
give_all-requires g c = IsServed-next g.S.Scheduler.does c.args.master.now c.args.seats.now.items c.collect.new.master c.collect.new.seats.items c.requires
    c.in_ok-came.ensures.serves c.in_ok-came.ensures.stay

pub returns-in_err-gave-clause-stay : goal.returns-in_err-gave-clause-stay
returns-in_err-gave-clause-stay g c = Stay-trans c.args.seats.now.items c.collect.new.seats.items c.give_all.new.seats.items c.in_ok-came.ensures.stay c.in_err-gave.ensures.stay

pub returns-clause-serves : goal.returns-clause-serves
returns-clause-serves g c = Serves-trans g.S.Scheduler.does c.args.master.now c.args.seats.now.items c.collect.new.master c.collect.new.seats.items
    c.give_all.new.master c.give_all.new.seats.items c.in_ok-came.ensures.serves c.in_ok-gave.ensures.serves

pub returns-clause-stay : goal.returns-clause-stay
returns-clause-stay g c = Stay-trans c.args.seats.now.items c.collect.new.seats.items c.give_all.new.seats.items c.in_ok-came.ensures.stay c.in_ok-gave.ensures.stay
