-- Every run of a deal keeps it tied to its ports.
use Rattle.std.specs.Prelude.{◌≡◌, ◌<◌, ◌≤◌, ℕ, true, false, List, [], ◌∷◌, ◌++◌, Option, None, Some}
use Rattle.std.proofs.Common.{refl, sym, ap, ap₂, ◌∙◌, subst, inl, inr}
use Rattle.std.proofs.lemmas.Bool.{false≢true}
use Rattle.std.proofs.lemmas.Option.{none-some}
use Rattle.ff_rec.specs.Lines.{Rec}
use Rattle.ff_rec.specs.Streams.{added}
use Rattle.ff_rec.specs.declared.msg.Msg.TheVariants.{Item, Abort as AbortMsg}
use Rattle.ff_node.specs.Runs.{Message, Act, Took, Gave, Refused, Idle, Told, Handed, HasRun, took, gave}
use Rattle.ff_port.specs.declared.answers.End.TheVariants.{Eos, Abort, Memory}
use Rattle.ff_unit.specs.Deals.{DealState, DealStep, DealGives, MayBeRefused, behind, deal_outs, deal_takes, on_outs, opening_deal}
use Rattle.ff_unit.specs.RunLaws.{HasRun-keeps}
use Rattle.ff_unit.specs.DealCutLaws.{TiedCut-live, TiedAt-refused}
use Rattle.ff_unit.specs.DealGivesLaws.{TiedAt-held, TiedAt-free}
use Rattle.ff_unit.specs.DealKindLaws.{deal_takes-same}
use Rattle.ff_unit.specs.DealOpenedLaws.{IsTied-opened}
use Rattle.ff_unit.specs.DealPairLaws.{Pair}
use Rattle.ff_unit.specs.DealRowLaws.{ArePut, ArePut-added}
use Rattle.ff_unit.specs.DealTakesLaws.{deal_takes-tied}
use Rattle.ff_unit.specs.DealTiedLaws.{TiedLive, TiedAt, IsTied}
use Rattle.ff_unit.specs.DealDoneLaws.{TiedAt-done}

module _ (u : DealState) (gots puts : List (List Message)) (t : IsTied u gots puts) where
  -- a message is taken
  IsTied-took : (k : ℕ) (m : Message) → k ≡ 0 → u.free ≡ None → u.held ≡ [] → u.live ≡ true → IsTied (deal_takes u m) (added gots k m) puts
  IsTied-took k m first free held live =
      let same = deal_takes-same u m in record {
        some = subst (λ n. 1 ≤ n) (sym same.places) t.some;
        turn = same.turn t.turn;
        done = λ done. absurd (false≢true (sym (t.done (sym same.done ∙ done)).2 ∙ live));
        got = t.got ++ m ∷ [];
        gots_are = ap₂ (λ ls i. added ls i m) t.gots_are first;
        given = t.given;
        puts_are = subst (λ n. ArePut n puts t.given) (sym (ap₂ deal_outs same.way same.places)) t.puts_are;
        tied = deal_takes-tied u t.got t.given free held u.end m t.some t.turn live refl (subst (λ l. TiedAt l u.end u t.got t.given) live t.tied);
      }

  -- what is held first is put
  IsTied-held : (k : ℕ) (m : Message) (held : List Pair) → u.free ≡ None → u.held ≡ (k, m) ∷ held → IsTied (record u { held = held }) gots (added puts k m)
  IsTied-held k m held free first =
      let next = TiedAt-held u t.got t.given k m held first free u.live u.end t.tied in record {
        some = t.some;
        turn = t.turn;
        done = λ done. let h : (k, m) ∷ held ≡ [] = sym first ∙ (t.done done).1 in cc;
        got = t.got;
        gots_are = t.gots_are;
        given = t.given ++ (k, m) ∷ [];
        puts_are = ArePut-added (deal_outs u.way u.places) puts t.given k m next.0 t.puts_are;
        tied = next.1;
      }

  -- a free record is put
  IsTied-free : (k : ℕ) (x : Rec) → u.free ≡ Some x → k < u.places
      → IsTied (record u { free = None; held = behind u.way u.places k }) gots (added puts k (Item x))
  IsTied-free k x free below =
      let next = TiedAt-free u t.got t.given k x free below u.live u.end t.tied in record {
        some = t.some;
        turn = t.turn;
        done = λ done. absurd (none-some x (sym (t.done done).0 ∙ free));
        got = t.got;
        gots_are = t.gots_are;
        given = t.given ++ (k, Item x) ∷ [];
        puts_are = ArePut-added (deal_outs u.way u.places) puts t.given k (Item x) next.0 t.puts_are;
        tied = next.1;
      }

  IsTied-gave : (k : ℕ) (m : Message) (v : DealState) (free : Option Rec) → u.free ≡ free → DealGives free u k m v → IsTied v gots (added puts k m)
  IsTied-gave k m v None is s = subst (λ w. IsTied w gots (added puts k m)) (sym s.1) (IsTied-held k m v.held is s.0)
  IsTied-gave k m v (Some x) is s =
      subst (λ w. IsTied w gots (added puts k m)) (sym s.2)
      (subst (λ n. IsTied (record u { free = None; held = behind u.way u.places k }) gots (added puts k n)) (sym s.0) (IsTied-free k x is s.1))

  -- a put is refused memory
  IsTied-refused : MayBeRefused u.free u.held → IsTied (record u { free = None; held = on_outs 0 (deal_outs u.way u.places) AbortMsg; end = Memory }) gots puts
  IsTied-refused may = record {
    some = t.some;
    turn = t.turn;
    done = λ done. let rests = t.done done in absurd (subst (λ h. MayBeRefused None h) rests.1 (subst (λ o. MayBeRefused o u.held) rests.0 may));
    got = t.got;
    gots_are = t.gots_are;
    given = t.given;
    puts_are = t.puts_are;
    tied = TiedAt-refused u t.got t.given u.live u.end may t.tied;
  }

  -- it is told to abort before its first step
  IsTied-told : u ≡ opening_deal u → IsTied (record u { held = on_outs 0 (deal_outs u.way u.places) AbortMsg; live = false; end = Abort; told = true }) gots puts
  IsTied-told fresh =
      let live : u.live ≡ true = ap (λ w. w.live) fresh in
      let eos : u.end ≡ Eos = ap (λ w. w.end) fresh in
      let tied : TiedLive u t.got t.given = subst (λ e. TiedAt true e u t.got t.given) eos (subst (λ l. TiedAt l u.end u t.got t.given) live t.tied) in record {
        some = t.some;
        turn = t.turn;
        done = λ done. absurd (false≢true (sym (ap (λ w. w.done) fresh) ∙ done));
        got = t.got;
        gots_are = t.gots_are;
        given = t.given;
        puts_are = t.puts_are;
        tied = (TiedCut-live u t.got t.given u.free false Abort true (ap (λ w. w.free) fresh) tied, inl refl);
      }

  IsTied-done : u.free ≡ None → u.held ≡ [] → u.live ≡ false → IsTied (record u { done = true }) gots puts
  IsTied-done free held ended = record {
    some = t.some;
    turn = t.turn;
    done = λ _. (free, held, ended);
    got = t.got;
    gots_are = t.gots_are;
    given = t.given;
    puts_are = t.puts_are;
    tied = TiedAt-done u t.got t.given u.live u.end ended t.tied;
  }

-- one act
IsTied-step : (u : DealState) (gots puts : List (List Message)) (act : Act) (v : DealState) → IsTied u gots puts → DealStep u act v → IsTied v (took act gots) (gave act puts)
IsTied-step u gots puts (Took k m) v t s = subst (λ w. IsTied w (added gots k m) puts) (sym s.4) (IsTied-took u gots puts t k m s.0 s.1 s.2 s.3)
IsTied-step u gots puts (Gave k m) v t s = IsTied-gave u gots puts t k m v u.free refl s
IsTied-step u gots puts Refused v t s = subst (λ w. IsTied w gots puts) (sym s.1) (IsTied-refused u gots puts t s.0)
IsTied-step u gots puts Idle v t (inl e) = subst (λ w. IsTied w gots puts) (sym e) t
IsTied-step u gots puts Idle v t (inr s) = subst (λ w. IsTied w gots puts) (sym s.3) (IsTied-done u gots puts t s.0 s.1 s.2)
IsTied-step u gots puts Told v t s = subst (λ w. IsTied w gots puts) (sym s.1) (IsTied-told u gots puts t s.0)
IsTied-step u gots puts (Handed x) v t s = absurd s

-- every run
pub HasRun-tied_deal : (u : DealState) (gots puts : List (List Message)) → 1 ≤ u.places → HasRun DealStep (opening_deal u) 1 (deal_outs u.way u.places) u gots puts → IsTied u gots puts
HasRun-tied_deal u gots puts some run =
    HasRun-keeps DealStep IsTied (opening_deal u) 1 (deal_outs u.way u.places) (IsTied-opened u.way u.places some) IsTied-step u gots puts run
