-- One task more.
use Rattle.ff_tasks.proofs.Serves.{IsServed-next, Serves-refl, Serves-trans, Stay-refl, Stay-trans}
use Rattle.ff_tasks.proofs.serving.give_all.Goals as goal

pub loop-given-init : goal.loop-given-init
loop-given-init g c = record {
  serves = Serves-refl g.S.Scheduler.does c.args.master.now c.args.seats.now.items c.requires.kept;
  stay = Stay-refl c.args.seats.now.items;
  served = c.requires;
}

pub loop-given-preserved : goal.loop-given-preserved
loop-given-preserved g c = record {
  serves = Serves-trans g.S.Scheduler.does c.args.master.now c.args.seats.now.items c.loop-given.master c.loop-given.seats.items c.give_to.new.master
      c.give_to.new.seats.items c.loop-given.invariant.serves c.in_ok-give_to.ensures.serves;
  stay = Stay-trans c.args.seats.now.items c.loop-given.seats.items c.give_to.new.seats.items c.loop-given.invariant.stay c.in_ok-give_to.ensures.stay;
  served = IsServed-next g.S.Scheduler.does c.loop-given.master c.loop-given.seats.items c.give_to.new.master c.give_to.new.seats.items c.loop-given.invariant.served
      c.in_ok-give_to.ensures.serves c.in_ok-give_to.ensures.stay;
}

pub returns-in_err-give_to-clause-stay : goal.returns-in_err-give_to-clause-stay
returns-in_err-give_to-clause-stay g c =
    Stay-trans c.args.seats.now.items c.loop-given.seats.items c.give_to.new.seats.items c.loop-given.invariant.stay c.in_err-give_to.ensures.stay

pub returns-then-not-branch-clause-serves : goal.returns-then-not-branch-clause-serves
returns-then-not-branch-clause-serves g c =
    Serves-trans g.S.Scheduler.does c.args.master.now c.args.seats.now.items c.loop-given.master c.loop-given.seats.items c.give_to.new.master
    c.give_to.new.seats.items c.loop-given.invariant.serves c.in_ok-give_to.ensures.serves

pub returns-then-not-branch-clause-stay : goal.returns-then-not-branch-clause-stay
returns-then-not-branch-clause-stay g c =
    Stay-trans c.args.seats.now.items c.loop-given.seats.items c.give_to.new.seats.items c.loop-given.invariant.stay c.in_ok-give_to.ensures.stay
