-- Every run of a merge keeps it tied to its ports.
use Rattle.std.specs.Prelude.{◌≤◌}
use Rattle.std.proofs.Common.{◌≡◌, ℕ, Bool, true, false, if◌then◌else◌, List, [], ◌∷◌, ◌++◌, length, replicate, slice_set, refl, sym, ap, ◌∙◌, subst, append_assoc, arith, inl, inr}
use Rattle.std.proofs.lemmas.Bool.{false≢true}
use Rattle.std.proofs.lemmas.List.{length-replicate, get_or-replicate}
use Rattle.ff_rec.specs.Streams.{IsOpen, at, added, items}
use Rattle.ff_rec.specs.declared.msg.Msg.TheVariants.{Item, Mark, Pick, Eos as EosMsg, Abort as AbortMsg}
use Rattle.ff_node.specs.Runs.{Message, Act, Took, Gave, Refused, Idle, Told, Handed, took, gave, HasRun}
use Rattle.ff_port.specs.declared.answers.End.TheVariants.{Eos, Abort, Memory}
use Rattle.ff_unit.specs.Closing.{IsLive, any_live, all_live, none_live, told_well}
use Rattle.ff_unit.specs.Merges.{MergeState, MergeStep, merge_takes, merge_closes, forwarded, opened_merge, opening_merge}
use Rattle.ff_unit.specs.StageSteps.{IsOpenFront}
use Rattle.ff_unit.specs.FlagLaws.{any_live-at, any_live-all, any_live-none, length-all_live}
use Rattle.ff_unit.specs.MergeInsLaws.{InsTied-memory, InsTied-told, InsTied-dropped, InsTied-item, InsTied-eos, InsTied-abort}
use Rattle.ff_unit.specs.MergeTiedLaws.{InTied, OutTied, InsTied, MergeTied, OutTied-begun, IsCutOff-begun, OutTied-item, OutTied-closes, OutTied-spoiled, IsCutOff-told}
use Rattle.ff_unit.specs.RunLaws.{HasRun-keeps}
use Rattle.ff_unit.specs.TakenLaws.{at-none}

-- a merge that has ended takes nothing more
undone : (u : MergeState) (k : ℕ) → IsLive u.live k → (u.done ≡ true → (u.held ≡ []) × (any_live u.live ≡ false)) → u.done ≡ true → ⊥
undone u k on ended done = false≢true (sym (ended done).1 ∙ any_live-at u.live k on)

module _ (n : ℕ) where
  -- a merge that holds nothing tells its end once no in gives any more
  closes-tied : (w : MergeState) (gots puts : List (List Message)) (ys : List _) (put : List Message) → InsTied n w.live w.end w.told gots ys
      → puts ≡ put ∷ [] → w.held ≡ [] → (w.done ≡ true → ⊥) → OutTied w.end true (put ++ []) ys → MergeTied n (merge_closes w) gots puts
  closes-tied w gots puts ys put ins is none goes_on out = by (any_live w.live) refl
    where
      Closed : Bool → Type 0
      Closed any = MergeTied n (if any then w else record w { held = told_well w.end }) gots puts

      by : (any : Bool) → any_live w.live ≡ any → MergeTied n (merge_closes w) gots puts
      by true e = subst Closed (sym e) (record {
        ys = ys;
        ins = ins;
        put = put;
        puts_are = is;
        out = subst (λ any. OutTied w.end any (put ++ w.held) ys) (sym e) (subst (λ h. OutTied w.end true (put ++ h) ys) (sym none) out);
        ended = λ done. absurd (goes_on done);
      })
      by false e = subst Closed (sym e) (record {
        ys = ys;
        ins = ins;
        put = put;
        puts_are = is;
        out = subst (λ any. OutTied w.end any (put ++ told_well w.end) ys) (sym e) (OutTied-closes put ys w.end out);
        ended = λ done. absurd (goes_on done);
      })

  -- a message is taken
  takes-tied : (u : MergeState) (gots puts : List (List Message)) (k : ℕ) (m : Message) → MergeTied n u gots puts → u.held ≡ [] → IsLive u.live k
      → MergeTied n (merge_takes u k m) (added gots k m) puts
  takes-tied u gots puts k m t none on = by m
    where
      any : any_live u.live ≡ true
      any = any_live-at u.live k on

      goes_on : u.done ≡ true → ⊥
      goes_on = undone u k on t.ended

      out : OutTied u.end true (t.put ++ []) t.ys
      out = subst (λ a. OutTied u.end a (t.put ++ []) t.ys) any (subst (λ h. OutTied u.end (any_live u.live) (t.put ++ h) t.ys) none t.out)

      dropped : (m : Message) → InsTied n u.live u.end u.told (added gots k m) t.ys → MergeTied n u (added gots k m) puts
      dropped m ins = record { ys = t.ys; ins = ins; put = t.put; puts_are = t.puts_are; out = t.out; ended = t.ended }

      by : (m : Message) → MergeTied n (merge_takes u k m) (added gots k m) puts
      by (Item x) = record {
        ys = t.ys ++ x ∷ [];
        ins = InsTied-item n u.live u.end u.told gots t.ys t.ins k on x;
        put = t.put;
        puts_are = t.puts_are;
        out = subst (λ a. OutTied u.end a (t.put ++ forwarded u.end x) (t.ys ++ x ∷ [])) (sym any) (OutTied-item t.put t.ys u.end x out);
        ended = λ done. absurd (goes_on done);
      }
      by Mark = dropped Mark (InsTied-dropped n u.live u.end u.told gots t.ys t.ins k on Mark tt refl)
      by (Pick w) = dropped (Pick w) (InsTied-dropped n u.live u.end u.told gots t.ys t.ins k on (Pick w) tt refl)
      by EosMsg =
          closes-tied (record u { live = slice_set u.live k false }) (added gots k EosMsg) puts t.ys t.put
          (InsTied-eos n u.live u.end u.told gots t.ys t.ins k on) t.puts_are none goes_on out
      by AbortMsg = record {
        ys = t.ys;
        ins = InsTied-abort n u.live u.end u.told gots t.ys t.ins k on;
        put = t.put;
        puts_are = t.puts_are;
        out = OutTied-spoiled t.put t.ys u.end (any_live (slice_set u.live k false)) out;
        ended = λ done. absurd (goes_on done);
      }

  -- a message is put
  gives-tied : (u : MergeState) (gots puts : List (List Message)) (m : Message) (held : List Message) → MergeTied n u gots puts → u.held ≡ m ∷ held
      → MergeTied n (record u { held = held }) gots (added puts 0 m)
  gives-tied u gots puts m held t e = record {
    ys = t.ys;
    ins = t.ins;
    put = t.put ++ m ∷ [];
    puts_are = ap (λ ls. added ls 0 m) t.puts_are;
    out = subst (λ l. OutTied u.end (any_live u.live) l t.ys) (ap (λ h. t.put ++ h) e ∙ sym (append_assoc t.put (m ∷ []) held)) t.out;
    ended = λ done. absurd (omega (arith, ap length (sym (t.ended done).0 ∙ e)));
  }

  -- a put is refused memory
  refused-tied : (u : MergeState) (gots puts : List (List Message)) (held : List Message) → u.held ≡ held → MergeTied n u gots puts → IsOpenFront held
      → MergeTied n (record u { held = AbortMsg ∷ []; end = Memory }) gots puts
  refused-tied u gots puts [] e t h = absurd h
  refused-tied u gots puts (m ∷ held) e t h = record {
    ys = t.ys;
    ins = InsTied-memory n u.live u.end u.told gots t.ys t.ins;
    put = t.put;
    puts_are = t.puts_are;
    out = IsCutOff-begun t.put t.ys (OutTied-begun u.end (any_live u.live) t.put held t.ys m
        (subst (λ l. OutTied u.end (any_live u.live) (t.put ++ l) t.ys) e t.out));
    ended = λ done. absurd (omega (arith, ap length (sym (t.ended done).0 ∙ e)));
  }

  -- it is told to abort
  told-tied : (u : MergeState) (gots puts : List (List Message)) → 1 ≤ n → MergeTied n u gots puts → u ≡ opening_merge u
      → MergeTied n (record u { live = none_live (length u.live); held = AbortMsg ∷ []; end = Abort; told = true }) gots puts
  told-tied u gots puts some t fresh =
      let number : 1 ≤ length u.live = omega (arith, some, t.ins.flags) in
      let any : any_live u.live ≡ true = ap (λ w. any_live w.live) fresh ∙ any_live-all (length u.live) number in
      let none : u.held ≡ [] = ap (λ w. w.held) fresh in
      let out : OutTied u.end true (t.put ++ []) t.ys = subst (λ a. OutTied u.end a (t.put ++ []) t.ys) any (subst (λ h. OutTied u.end (any_live u.live) (t.put ++ h) t.ys) none t.out) in
      record {
        ys = t.ys;
        ins = InsTied-told n u.live u.end u.told gots t.ys t.ins;
        put = t.put;
        puts_are = t.puts_are;
        out = subst (λ a. OutTied Abort a (t.put ++ AbortMsg ∷ []) t.ys) (sym (any_live-none (length u.live))) (IsCutOff-told t.put t.ys u.end out (ap (λ w. w.end) fresh));
        ended = λ done. absurd (false≢true (sym (ap (λ w. w.done) fresh) ∙ done));
      }

  -- one act
  pub MergeTied-step : 1 ≤ n → (u : MergeState) (gots puts : List (List Message)) (act : Act) (v : MergeState) → MergeTied n u gots puts → MergeStep u act v
      → MergeTied n v (took act gots) (gave act puts)
  MergeTied-step some u gots puts (Took k m) v t s = subst (λ w. MergeTied n w (added gots k m) puts) (sym s.2) (takes-tied u gots puts k m t s.0 s.1)
  MergeTied-step some u gots puts (Gave k m) v t s =
      subst (λ i. MergeTied n v gots (added puts i m)) (sym s.0)
      (subst (λ w. MergeTied n w gots (added puts 0 m)) (sym s.2) (gives-tied u gots puts m v.held t s.1))
  MergeTied-step some u gots puts Refused v t s = subst (λ w. MergeTied n w gots puts) (sym s.1) (refused-tied u gots puts u.held refl t s.0)
  MergeTied-step some u gots puts Idle v t (inl e) = subst (λ w. MergeTied n w gots puts) (sym e) t
  MergeTied-step some u gots puts Idle v t (inr s) =
      subst (λ w. MergeTied n w gots puts) (sym s.2)
      (record { ys = t.ys; ins = t.ins; put = t.put; puts_are = t.puts_are; out = t.out; ended = λ done. (s.0, s.1) })
  MergeTied-step some u gots puts Told v t s = subst (λ w. MergeTied n w gots puts) (sym s.1) (told-tied u gots puts some t s.0)
  MergeTied-step some u gots puts (Handed x) v t s = absurd s

  -- a merge that made no step
  pub MergeTied-opened : 1 ≤ n → MergeTied n (opened_merge n) (replicate n []) ([] ∷ [])
  MergeTied-opened some = record {
    ys = [];
    ins = record {
      picks = [];
      picks_are = record { each = refl; within = tt };
      flags = length-all_live n;
      ins = length-replicate n [];
      shares = λ j. ap items (at-none n j);
      each = λ j below. subst (λ l. InTied l Eos (at (replicate {A = List Message} n []) j)) (sym (get_or-replicate n j true false below)) (subst IsOpen (sym (at-none n j)) tt);
      cause = λ e. absurd cc;
    };
    put = [];
    puts_are = refl;
    out = subst (λ any. OutTied Eos any [] []) (sym (any_live-all n some)) refl;
    ended = λ done. absurd (false≢true done);
  }

-- every run
pub HasRun-merge : (u : MergeState) (gots puts : List (List Message)) → 1 ≤ length u.live
    → HasRun MergeStep (opening_merge u) (length (all_live (length u.live))) 1 u gots puts → MergeTied (length u.live) u gots puts
HasRun-merge u gots puts some run =
    let n = length u.live in
    HasRun-keeps MergeStep (MergeTied n) (opened_merge n) (length (all_live n)) 1
    (subst (λ k. MergeTied n (opened_merge n) (replicate k []) ([] ∷ [])) (sym (length-all_live n)) (MergeTied-opened n some))
    (λ w gots puts act v t s. MergeTied-step n some w gots puts act v t s) u gots puts run
