-- Every run of an ordered merge keeps it tied to its ports.
use Rattle.std.proofs.Common.{◌≡◌, ◌⊎◌, ℕ, ◌<◌, ◌≤◌, true, List, [], ◌∷◌, ◌++◌, length, refl, sym, ap, ◌∙◌, subst, append_assoc, arith, inl, inr}
use Rattle.std.proofs.lemmas.Bool.{false≢true}
use Rattle.ff_rec.specs.Streams.{added}
use Rattle.ff_rec.specs.declared.msg.Msg.TheVariants.{Abort as AbortMsg}
use Rattle.ff_node.specs.Runs.{Message, Act, Took, Gave, Refused, Idle, Told, Handed, took, gave, HasRun}
use Rattle.ff_port.specs.declared.answers.End.TheVariants.{Abort, Memory}
use Rattle.ff_unit.specs.Closing.{IsLive, none_live}
use Rattle.ff_unit.specs.FlagLaws.{IsLive-within, any_live-at, length-none_live}
use Rattle.ff_unit.specs.RunLaws.{HasRun-keeps}
use Rattle.ff_unit.specs.StageSteps.{IsOpenFront}
use Rattle.ff_unit.specs.Units.{TookAbort}
use Rattle.ff_unit.specs.declared.mode.Mode.TheVariants.{Live, Cut}
use Rattle.ff_order.specs.OMerges.{OMergeState, OMergeStep, omerge_ins, opening_omerge, omerge_takes, IsDue}
use Rattle.ff_order.specs.OMergeKeptLaws.{IsKept, omerge_takes-kept}
use Rattle.ff_order.specs.OMergeTakesLaws.{omerge_takes-tied}
use Rattle.ff_order.specs.OMergeTiedLaws.{TiedLive, TiedAt, IsTied}
use Rattle.ff_unit.specs.TakenLaws.{length-added, TookAbort-added, TookAbort-abort}
use Rattle.ff_order.specs.OMergeBegunLaws.{TiedAt-begun}
use Rattle.ff_order.specs.OMergeLiveLaws.{live_begun}
use Rattle.ff_order.specs.OMergeStartLaws.{IsTied-start}

-- one step
module _ (u : OMergeState) (gots puts : List (List Message)) (t : IsTied u gots puts) where
  took-tied : (k : ℕ) (m : Message) → u.held ≡ [] → IsLive u.live k → IsDue u.mode u.due k → IsTied (omerge_takes u k m) (added gots k m) puts
  took-tied k m none on due =
      let kept = omerge_takes-kept u k m in
      let ins_same : omerge_ins u.order u.places ≡ omerge_ins (omerge_takes u k m).order (omerge_takes u k m).places =
      ap (λ o. omerge_ins o u.places) (sym kept.order) ∙ ap (omerge_ins (omerge_takes u k m).order) (sym kept.places) in record {
        some = subst (λ n. 1 ≤ n) (sym kept.places) t.some;
        ins = length-added gots k m ∙ t.ins ∙ ins_same;
        lives = kept.lives ∙ t.lives ∙ ins_same;
        due = subst (λ n. (omerge_takes u k m).due < n) ins_same (kept.due t.some t.due);
        put = t.put;
        puts_are = t.puts_are;
        tied = omerge_takes-tied u gots t.put t.some t.ins t.due none k m on due t.tied;
        ended = λ done. absurd (false≢true (sym (t.ended (sym kept.done ∙ done)).1 ∙ any_live-at u.live k on));
        cause = λ e. why kept (kept.cause e);
      }
    where
      below : k < length gots
      below = omega (arith, t.ins, t.lives, IsLive-within u.live k on)

      why : IsKept m u (omerge_takes u k m) → (u.end ≡ Abort) ⊎ (m ≡ AbortMsg) → ((omerge_takes u k m).told ≡ true) ⊎ TookAbort (added gots k m)
      why kept (inl e) = before (t.cause e)
        where
          before : (u.told ≡ true) ⊎ TookAbort gots → ((omerge_takes u k m).told ≡ true) ⊎ TookAbort (added gots k m)
          before (inl told) = inl (kept.told ∙ told)
          before (inr has) = inr (TookAbort-added gots k m has)
      why kept (inr is) = inr (subst (λ m. TookAbort (added gots k m)) (sym is) (TookAbort-abort gots k below))

  gave-tied : (m : Message) (held : List Message) → u.held ≡ m ∷ held → IsTied (record u { held = held }) gots (added puts 0 m)
  gave-tied m held e = record {
    some = t.some;
    ins = t.ins;
    lives = t.lives;
    due = t.due;
    put = t.put ++ m ∷ [];
    puts_are = ap (λ l. added l 0 m) t.puts_are;
    tied = subst (λ l. TiedAt u.mode u.order u.places u.due u.live u.end gots l) (ap (λ h. t.put ++ h) e ∙ sym (append_assoc t.put (m ∷ []) held)) t.tied;
    ended = λ done. absurd (omega (arith, ap length (sym (t.ended done).0 ∙ e)));
    cause = t.cause;
  }

  refused-tied : (held : List Message) → u.held ≡ held → IsOpenFront held → IsTied (record u { held = AbortMsg ∷ []; mode = Cut; end = Memory }) gots puts
  refused-tied [] e front = absurd front
  refused-tied (m ∷ held) e front = record {
    some = t.some;
    ins = t.ins;
    lives = t.lives;
    due = t.due;
    put = t.put;
    puts_are = t.puts_are;
    tied = record {
      before = t.put;
      begun = TiedAt-begun u.mode u.order u.places u.due u.live u.end gots t.put m held
          (subst (λ h. TiedAt u.mode u.order u.places u.due u.live u.end gots (t.put ++ h)) e t.tied);
      is = refl;
      ends = λ e. absurd (cc);
    };
    ended = λ done. absurd (omega (arith, ap length (sym (t.ended done).0 ∙ e)));
    cause = λ e. absurd (cc);
  }

  told-tied : u ≡ opening_omerge u
      → IsTied (record u { live = none_live (omerge_ins u.order u.places); held = AbortMsg ∷ []; mode = Cut; end = Abort; told = true }) gots puts
  told-tied fresh =
      let none : u.held ≡ [] = ap (λ s. s.held) fresh in
      let live : u.mode ≡ Live = ap (λ s. s.mode) fresh in
      let tied : TiedLive u.order u.places u.due u.live u.end gots (t.put ++ u.held) =
      subst (λ mode. TiedAt mode u.order u.places u.due u.live u.end gots (t.put ++ u.held)) live t.tied in record {
        some = t.some;
        ins = t.ins;
        lives = length-none_live (omerge_ins u.order u.places);
        due = t.due;
        put = t.put;
        puts_are = t.puts_are;
        tied = record { before = t.put; begun = live_begun u gots t.put t.some t.ins t.due none live tied; is = refl; ends = λ e. absurd (cc) };
        ended = λ done. absurd (false≢true (sym (ap (λ s. s.done) fresh) ∙ done));
        cause = λ e. inl refl;
      }

pub IsTied-step : (u : OMergeState) (gots puts : List (List Message)) (act : Act) (v : OMergeState) → IsTied u gots puts → OMergeStep u act v
    → IsTied v (took act gots) (gave act puts)
IsTied-step u gots puts (Took k m) v t s = subst (λ w. IsTied w (added gots k m) puts) (sym s.3) (took-tied u gots puts t k m s.0 s.1 s.2)
IsTied-step u gots puts (Gave k m) v t s =
    subst (λ w. IsTied w gots (added puts k m)) (sym s.2)
    (subst (λ k. IsTied (record u { held = v.held }) gots (added puts k m)) (sym s.0) (gave-tied u gots puts t m v.held s.1))
IsTied-step u gots puts Refused v t s = subst (λ w. IsTied w gots puts) (sym s.1) (refused-tied u gots puts t u.held refl s.0)
IsTied-step u gots puts Idle v t (inl e) = subst (λ w. IsTied w gots puts) (sym e) t
IsTied-step u gots puts Idle v t (inr s) = subst (λ w. IsTied w gots puts) (sym s.2) (record {
  some = t.some;
  ins = t.ins;
  lives = t.lives;
  due = t.due;
  put = t.put;
  puts_are = t.puts_are;
  tied = t.tied;
  ended = λ _. (s.0, s.1);
  cause = t.cause;
})
IsTied-step u gots puts Told v t s = subst (λ w. IsTied w gots puts) (sym s.1) (told-tied u gots puts t s.0)
IsTied-step u gots puts (Handed x) v t s = absurd s

-- every run is such
pub HasRun-tied : (u : OMergeState) (gots puts : List (List Message)) → 1 ≤ u.places
    → HasRun OMergeStep (opening_omerge u) (omerge_ins u.order u.places) 1 u gots puts → IsTied u gots puts
HasRun-tied u gots puts some run =
    HasRun-keeps OMergeStep IsTied (opening_omerge u) (omerge_ins u.order u.places) 1 (IsTied-start u.order u.places some) IsTied-step u gots puts run
