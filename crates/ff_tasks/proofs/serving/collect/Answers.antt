-- One worker more.
use Rattle.std.proofs.Common.{arith}
use Rattle.ff_tasks.proofs.Serves.{IsServed-next, Serves-refl, Serves-trans, Stay-refl, Stay-trans}
use Rattle.ff_tasks.proofs.serving.collect.Goals as goal

pub loop-w-init : goal.loop-w-init
loop-w-init g c = record {
  serves = Serves-refl g.S.Scheduler.does c.args.master.now c.args.seats.now.items c.requires.kept;
  stay = Stay-refl c.args.seats.now.items;
  served = c.requires;
}

pub loop-w-preserved : goal.loop-w-preserved
loop-w-preserved g c = record {
  serves = Serves-trans g.S.Scheduler.does c.args.master.now c.args.seats.now.items c.loop-w.master c.loop-w.seats.items c.collect_at.new.master
      c.collect_at.new.seats.items c.loop-w.invariant.serves c.in_ok-collect_at.ensures.serves;
  stay = Stay-trans c.args.seats.now.items c.loop-w.seats.items c.collect_at.new.seats.items c.loop-w.invariant.stay c.in_ok-collect_at.ensures.stay;
  served = IsServed-next g.S.Scheduler.does c.loop-w.master c.loop-w.seats.items c.collect_at.new.master c.collect_at.new.seats.items c.loop-w.invariant.served
      c.in_ok-collect_at.ensures.serves c.in_ok-collect_at.ensures.stay;
}

pub returns-in_err-collect_at-clause-stay : goal.returns-in_err-collect_at-clause-stay
returns-in_err-collect_at-clause-stay g c =
    Stay-trans c.args.seats.now.items c.loop-w.seats.items c.collect_at.new.seats.items c.loop-w.invariant.stay c.in_err-collect_at.ensures.stay
