-- One turn more.
use Rattle.std.proofs.Common.{subst, sym}
use Rattle.ff_tasks.specs.Seats.{Stay}
use Rattle.ff_tasks.specs.Serving.{IsServed, Serves}
use Rattle.ff_tasks.proofs.Serves.{IsServed-next, Serves-refl, Serves-trans, Stay-refl, Stay-trans}
use Rattle.ff_tasks.proofs.serving.serve.Goals as goal

pub loop-init : goal.loop-init
loop-init g c = record {
  serves = Serves-refl g.S.Scheduler.does c.args.master.now c.args.seats.now.items c.requires.kept;
  stay = Stay-refl c.args.seats.now.items;
  served = c.requires;
}

pub loop-preserved : goal.loop-preserved
loop-preserved g c =
    let serves = Serves-trans g.S.Scheduler.does c.args.master.now c.args.seats.now.items c.loop.master c.loop.seats.items c.turn.new.master
    c.turn.new.seats.items c.loop.invariant.serves c.in_ok-moves.ensures.serves in
    let stay = Stay-trans c.args.seats.now.items c.loop.seats.items c.turn.new.seats.items c.loop.invariant.stay c.in_ok-moves.ensures.stay in
    let served = IsServed-next g.S.Scheduler.does c.loop.master c.loop.seats.items c.turn.new.master c.turn.new.seats.items c.loop.invariant.served
    c.in_ok-moves.ensures.serves c.in_ok-moves.ensures.stay in
    record {
      serves = subst (λ ss. Serves g.S.Scheduler.does c.args.master.now c.args.seats.now.items c.turn.new.master ss) (sym c.pace.ensures) serves;
      stay = subst (λ ss. Stay c.args.seats.now.items ss) (sym c.pace.ensures) stay;
      served = subst (λ ss. IsServed g.S.Scheduler.does c.turn.new.master ss) (sym c.pace.ensures) served;
    }

pub returns-in_err-moves-clause-stay : goal.returns-in_err-moves-clause-stay
returns-in_err-moves-clause-stay g c =
    Stay-trans c.args.seats.now.items c.loop.seats.items c.turn.new.seats.items c.loop.invariant.stay c.in_err-moves.ensures.stay

pub returns-then-idle-clause-serves : goal.returns-then-idle-clause-serves
returns-then-idle-clause-serves g c = Serves-trans g.S.Scheduler.does c.args.master.now c.args.seats.now.items c.loop.master c.loop.seats.items c.turn.new.master
    c.turn.new.seats.items c.loop.invariant.serves c.in_ok-moves.ensures.serves

pub returns-then-idle-clause-stay : goal.returns-then-idle-clause-stay
returns-then-idle-clause-stay g c =
    Stay-trans c.args.seats.now.items c.loop.seats.items c.turn.new.seats.items c.loop.invariant.stay c.in_ok-moves.ensures.stay
