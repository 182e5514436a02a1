-- The ports of the master of a wrap are as its code asks.
use Rattle.std.specs.Prelude.{◌≡◌, ◌≤◌, suc, List}
use Rattle.std.proofs.Common.{sym, subst, arith}
use Rattle.ff_rec.specs.Streams.{IsOpen}
use Rattle.ff_rec.specs.declared.msg.Msg.TheVariants.{Eos as EosMsg, Abort as AbortMsg}
use Rattle.ff_node.specs.Runs.{Message}
use Rattle.ff_unit.specs.DealPairLaws.{IsInner, AllByRecursion-front, AllByRecursion-back, IsOpen-on}
use Rattle.ff_unit.specs.DealReadyLaws.{AreOpenOuts-inner, AreOpenOuts-on_outs}
use Rattle.ff_unit.specs.Deals.{AreOpenOuts}
use Rattle.ff_unit.specs.declared.mode.Mode.{Mode}
use Rattle.ff_unit.specs.declared.mode.Mode.TheVariants.{Live, Shut, Cut}
use Rattle.ff_loop.specs.Rounds.{workers_of}
use Rattle.ff_loop.specs.WrapMasters.{WrapState, WrapReady, OwesOnly}
use Rattle.ff_loop.specs.WrapTiedLaws.{IsTold, TiedWorks, TiedAt, IsTied}

module _ (u : WrapState) (gots puts : List (List Message)) (t : IsTied u gots puts) where
  -- while it works, each out is open
  held-works : TiedWorks u gots t.given → AreOpenOuts puts u.held
  held-works l =
      let outs = suc (workers_of u.round) in
      AreOpenOuts-inner outs puts u.held t.puts_are.outs
      (λ j below. subst IsOpen (sym (t.puts_are.each j below)) (IsOpen-on outs j t.given (AllByRecursion-front (IsInner outs) t.given u.held l.inner)))
      (AllByRecursion-back (IsInner outs) t.given u.held l.inner)

  -- what is told is told on outs on which no end stands
  held-told : (m : Message) → IsTold m (suc (workers_of u.round)) u.held t.given → AreOpenOuts puts u.held
  held-told m told =
      subst (AreOpenOuts puts) (sym told.are)
      (AreOpenOuts-on_outs puts told.next told.left m (omega (arith, told.within, t.puts_are.outs)) (λ j from below.
      subst IsOpen (sym (t.puts_are.each j (omega (arith, below, told.within)))) (told.inner j from below)))

  held-at : (mode : Mode) → TiedAt mode u gots t.given → AreOpenOuts puts u.held
  held-at Live l = held-works l.0
  held-at Shut s = held-told EosMsg s.telling
  held-at Cut c = held-told AbortMsg c.telling

  -- one that works knows which workers have a task
  owes-at : (mode : Mode) → TiedAt mode u gots t.given → mode ≡ Live → OwesOnly u
  owes-at Live l e = l.0.owes
  owes-at Shut s e = absurd cc
  owes-at Cut c e = absurd cc

  pub wrap-ready : workers_of u.round ≤ 64 → WrapReady u gots puts
  wrap-ready few = record {
    sized = record { round = t.round; some = t.some; few = few; flags = t.flags; parts_are = t.parts_are };
    ins = t.ins;
    outs = t.puts_are.outs;
    owes = owes-at u.mode t.tied;
    open_held = held-at u.mode t.tied;
    ended = t.ended;
  }
