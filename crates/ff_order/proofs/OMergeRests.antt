-- An ordered merge that waits, or has ended.
use Rattle.std.specs.Prelude.{◌≤◌, slice_index, slice_set}
use Rattle.std.proofs.Common.{◌≡◌, ◌≢◌, ◌⊎◌, ℕ, zero, suc, ◌+◌, ◌<◌, ◌==◌, Bool, true, false, if◌then◌else◌, List, [], ◌∷◌, ◌++◌, length, replicate, refl, sym, ap, ◌∙◌, subst, inl, inr, arith, append-nil, lt-ltb}
use Rattle.std.proofs.lemmas.Bool.{false≢true}
use Rattle.std.proofs.lemmas.Bool.Decides.{eqb_tells}
use Rattle.std.proofs.lemmas.List.{length-replicate}
use Rattle.ff_rec.specs.Streams.{at, added, carried}
use Rattle.ff_rec.specs.declared.msg.Msg.TheVariants.{Item, Mark, Pick, Eos as EosMsg, Abort as AbortMsg}
use Rattle.ff_node.specs.Fits.{marks}
use Rattle.ff_node.specs.Runs.{Message, Act, Took, Gave, Refused, Idle, Told, Handed, took, gave, HasRun}
use Rattle.ff_port.specs.declared.answers.End.TheVariants.{Memory}
use Rattle.ff_unit.specs.Closing.{IsLive, any_live, all_live, AllDry}
use Rattle.ff_unit.specs.FlagLaws.{any_live-all}
use Rattle.ff_unit.specs.RunLaws.{HasRun-keeps}
use Rattle.ff_unit.specs.TakenLaws.{at-added, at-added_other, at-none, length-added}
use Rattle.ff_unit.specs.Units.{Ran, Known}
use Rattle.ff_unit.specs.declared.mode.Mode.{Mode}
use Rattle.ff_unit.specs.declared.mode.Mode.TheVariants.{Live, Shut, Cut}
use Rattle.ff_order.specs.OMergeFitsLaws.{OMergeReady-tied}
use Rattle.ff_order.specs.OMergeKeptLaws.{omerge_takes-kept}
use Rattle.ff_order.specs.OMergeRunLaws.{IsTied-step}
use Rattle.ff_order.specs.OMergeStartLaws.{IsTied-start}
use Rattle.ff_order.specs.OMergeTiedLaws.{IsTied, TiedAt, eos_after}
use Rattle.ff_order.specs.OMerges.{OMergeState, OMergeStep, OMergeStalls, GaveNothing, omerge_does, omerge_ins, omerge_takes, omerge_gets, omerge_ended, omerge_spoiled, omerge_closes, omerge_cuts, gets_group, gets_pick, next_due, first_due, opening_omerge, IsDue}
use Rattle.ff_order.specs.declared.order.Order.{Order}
use Rattle.ff_order.specs.declared.order.Order.TheVariants.{InTurn, ByPick}
use Rattle.ff_unit.proofs.Rests.{HasEnd, next_place, turn, turns_of}
use Rattle.ff_unit.proofs.Rests.{AtRest, IsFree, Rested, AwaitsIn}
use Rattle.ff_unit.proofs.FlagEnds.{FlagEnds, FlagEnds-start, FlagEnds-item, FlagEnds-end, live_or_ended, none_ended, live_open, all_ended-none}
use Rattle.ff_unit.proofs.HasEnds.{HasEnd-right}
use Rattle.ff_unit.proofs.TurnMarks.{turn-below, marks-append}

-- the place that is due behind a message
abbrev due_behind : ℕ → ℕ → Message → ℕ
due_behind n w (Item x) = w
due_behind n w Mark = next_place n w
due_behind n w (Pick k) = w
due_behind n w EosMsg = w
due_behind n w AbortMsg = w

-- what a take makes of the flags and of the place that is due
record NextDue (u : OMergeState) (k : ℕ) (m : Message) (v : OMergeState) : Type 0 where
  pub live : (HasEnd (m ∷ []) → ⊥) → v.live ≡ u.live
  pub closed : HasEnd (m ∷ []) → v.live ≡ slice_set u.live k false
  pub mode : v.mode ≡ Live → u.mode ≡ Live
  pub inner : v.mode ≡ Live → HasEnd (m ∷ []) → ⊥
  pub due : v.mode ≡ Live → v.due ≡ due_behind u.places u.due m

module _ (u : OMergeState) (k : ℕ) where
  same_due : (m : Message) → (HasEnd (m ∷ []) → ⊥) → due_behind u.places u.due m ≡ u.due → NextDue u k m u
  same_due m inner is = record { live = λ _. refl; closed = λ end. absurd (inner end); mode = λ h. h; inner = λ _. inner; due = λ _. sym is }

  other_due : (m : Message) (v : OMergeState) → (HasEnd (m ∷ []) → ⊥) → v.live ≡ u.live → (v.mode ≡ Live → ⊥) → NextDue u k m v
  other_due m v inner same other = record { live = λ _. same; closed = λ end. absurd (inner end); mode = λ h. absurd (other h); inner = λ h. absurd (other h); due = λ h. absurd (other h) }

  ended_due : (m : Message) (v : OMergeState) → HasEnd (m ∷ []) → v.live ≡ slice_set u.live k false → (v.mode ≡ Live → ⊥) → NextDue u k m v
  ended_due m v end same other = record { live = λ inner. absurd (inner end); closed = λ _. same; mode = λ h. absurd (other h); inner = λ h. absurd (other h); due = λ h. absurd (other h) }

  closes_due : (m : Message) → HasEnd (m ∷ []) → NextDue u k m (omerge_closes (record u { live = slice_set u.live k false }))
  closes_due m end = by (any_live (slice_set u.live k false)) refl
    where
      by : (any : Bool) → any_live (slice_set u.live k false) ≡ any → NextDue u k m (omerge_closes (record u { live = slice_set u.live k false }))
      by true e = rw e (ended_due m (record u { live = slice_set u.live k false; mode = Shut }) end refl (λ live. let h : Shut ≡ Live = live in cc))
      by false e = rw e (ended_due m (record u { live = slice_set u.live k false; mode = Shut; held = EosMsg ∷ [] }) end refl (λ live. let h : Shut ≡ Live = live in cc))

  module _ (order : u.order ≡ InTurn) (below : u.due < u.places) where
    -- it merges
    live_due : (m : Message) → (HasEnd (m ∷ []) → ⊥) → NextDue u k m (omerge_gets Live u m)
    live_due (Item x) inner = rw (lt-ltb u.due u.places below) (record { live = λ _. refl; closed = λ end. absurd end; mode = λ h. h; inner = λ _ end. end; due = λ _. refl })
    live_due Mark inner =
        rw (lt-ltb u.due u.places below)
        (record { live = λ _. refl; closed = λ end. absurd end; mode = λ h. h; inner = λ _ end. end; due = λ _. ap (λ o. next_due o u.places u.due) order })
    live_due (Pick w) inner = rw (lt-ltb u.due u.places below) (same_due (Pick w) (λ h. h) refl)
    live_due EosMsg inner = absurd (inner tt)
    live_due AbortMsg inner = absurd (inner tt)

    gets_due : (mode : Mode) → u.mode ≡ mode → (m : Message) → (HasEnd (m ∷ []) → ⊥) → NextDue u k m (omerge_gets mode u m)
    gets_due Live is m inner = live_due m inner
    gets_due Shut is m inner = other_due m u inner refl (λ live. let h : Shut ≡ Live = sym is ∙ live in cc)
    gets_due Cut is m inner = other_due m u inner refl (λ live. let h : Cut ≡ Live = sym is ∙ live in cc)

    eos_due : (mode : Mode) → u.mode ≡ mode → NextDue u k EosMsg (omerge_ended mode (record u { live = slice_set u.live k false }))
    eos_due Live is = closes_due EosMsg tt
    eos_due Shut is = closes_due EosMsg tt
    eos_due Cut is = ended_due EosMsg (record u { live = slice_set u.live k false }) tt refl (λ live. let h : Cut ≡ Live = sym is ∙ live in cc)

    abort_due : (mode : Mode) → u.mode ≡ mode → NextDue u k AbortMsg (omerge_spoiled mode (record u { live = slice_set u.live k false }))
    abort_due Live is = ended_due AbortMsg (omerge_cuts (record u { live = slice_set u.live k false })) tt refl (λ live. let h : Cut ≡ Live = live in cc)
    abort_due Shut is = ended_due AbortMsg (omerge_cuts (record u { live = slice_set u.live k false })) tt refl (λ live. let h : Cut ≡ Live = live in cc)
    abort_due Cut is = ended_due AbortMsg (record u { live = slice_set u.live k false }) tt refl (λ live. let h : Cut ≡ Live = sym is ∙ live in cc)

    takes_due : (m : Message) → NextDue u k m (omerge_takes u k m)
    takes_due (Item x) = gets_due u.mode refl (Item x) (λ h. h)
    takes_due Mark = gets_due u.mode refl Mark (λ h. h)
    takes_due (Pick w) = gets_due u.mode refl (Pick w) (λ h. h)
    takes_due EosMsg = eos_due u.mode refl
    takes_due AbortMsg = abort_due u.mode refl

-- the Marks that were got, round and round
record Merged (n due : ℕ) (gots : List (List Message)) : Type 0 where
  pub number : ℕ
  pub is_due : due ≡ turn n number
  pub each : (j : ℕ) → j < n → marks (at gots j) ≡ turns_of n number j

-- a Mark behind them, and something else
merged-mark : (n due : ℕ) (gots : List (List Message)) → length gots ≡ n → due < n → Merged n due gots → Merged n (next_place n due) (added gots due Mark)
merged-mark n due gots long below t = record {
  number = suc t.number;
  is_due = ap (next_place n) t.is_due;
  each = λ j low. elim (eqb_tells due j) [
    | inl h ↦
        let same : at (added gots due Mark) j ≡ at gots j ++ Mark ∷ [] = subst (λ i. at (added gots due Mark) i ≡ at gots i ++ Mark ∷ []) h.1 (at-added gots due Mark (omega (arith, below, long))) in
        let one : ◌≡◌ {A = ℕ} (if turn n t.number == j then 1 else 0) 1 = ap (λ i. if i == j then 1 else 0) (sym t.is_due) ∙ ap (λ e. if e then 1 else 0) h.0 in
        omega (arith, ap marks same, marks-append (at gots j) (Mark ∷ []), t.each j low, one)
    | inr h ↦
        let same = at-added_other gots due j Mark (λ e. h.1 (sym e)) in
        let none : ◌≡◌ {A = ℕ} (if turn n t.number == j then 1 else 0) 0 = ap (λ i. if i == j then 1 else 0) (sym t.is_due) ∙ ap (λ e. if e then 1 else 0) h.0 in
        omega (arith, ap marks same, t.each j low, none)
  ];
}

marks-added : (gots : List (List Message)) (k j : ℕ) (m : Message) → k < length gots → marks (m ∷ []) ≡ 0 → marks (at (added gots k m) j) ≡ marks (at gots j)
marks-added gots k j m below none = elim (eqb_tells k j) [
  | inl h ↦
      let same : at (added gots k m) j ≡ at gots j ++ m ∷ [] = subst (λ i. at (added gots k m) i ≡ at gots i ++ m ∷ []) h.1 (at-added gots k m below) in
      omega (arith, ap marks same, marks-append (at gots j) (m ∷ []), none)
  | inr h ↦ ap marks (at-added_other gots k j m (λ e. h.1 (sym e)))
]

merged-other : (n due : ℕ) (gots : List (List Message)) (k : ℕ) (m : Message) → k < length gots → marks (m ∷ []) ≡ 0 → Merged n due gots → Merged n due (added gots k m)
merged-other n due gots k m below none t = record {
  number = t.number;
  is_due = t.is_due;
  each = λ j low. marks-added gots k j m below none ∙ t.each j low;
}

-- what every run keeps that wasn't told to abort
record OMergeKeeps (u : OMergeState) (gots : List (List Message)) : Type 0 where
  pub ports : length gots ≡ u.places
  pub flags : FlagEnds u.live gots
  pub merged : u.mode ≡ Live → Merged u.places u.due gots

abbrev Keeps : OMergeState → List (List Message) → List (List Message) → Type 0
Keeps u gots puts = 1 ≤ u.places → u.order ≡ InTurn → u.told ≡ false → OMergeKeeps u gots

merged-behind : (m : Message) (n due : ℕ) (gots : List (List Message)) → length gots ≡ n → due < n → (HasEnd (m ∷ []) → ⊥) → Merged n due gots → Merged n (due_behind n due m) (added gots due m)
merged-behind (Item x) n due gots long below inner t = merged-other n due gots due (Item x) (omega (arith, below, long)) refl t
merged-behind Mark n due gots long below inner t = merged-mark n due gots long below t
merged-behind (Pick w) n due gots long below inner t = merged-other n due gots due (Pick w) (omega (arith, below, long)) refl t
merged-behind EosMsg n due gots long below inner t = absurd (inner tt)
merged-behind AbortMsg n due gots long below inner t = absurd (inner tt)

-- whether a message is the last of its in
ends_or_not : (m : Message) → HasEnd (m ∷ []) ⊎ (HasEnd (m ∷ []) → ⊥)
ends_or_not (Item x) = inr (λ h. h)
ends_or_not Mark = inr (λ h. h)
ends_or_not (Pick w) = inr (λ h. h)
ends_or_not EosMsg = inl tt
ends_or_not AbortMsg = inl tt

live_is_due : (mode : Mode) (due k : ℕ) → mode ≡ Live → IsDue mode due k → k ≡ due
live_is_due Live due k is h = h
live_is_due Shut due k is h = let e : Shut ≡ Live = is in cc
live_is_due Cut due k is h = let e : Cut ≡ Live = is in cc

takes_keeps : (u : OMergeState) (gots puts : List (List Message)) (k : ℕ) (m : Message) → Keeps u gots puts → IsLive u.live k → IsDue u.mode u.due k
    → u.due < omerge_ins u.order u.places → Keeps (omerge_takes u k m) (added gots k m) puts
takes_keeps u gots puts k m h on due within some order told =
    let kept = omerge_takes-kept u k m in
    let was_order : u.order ≡ InTurn = sym kept.order ∙ order in
    let was_some : 1 ≤ u.places = subst (λ n. 1 ≤ n) kept.places some in
    let t = h was_some was_order (sym kept.told ∙ told) in
    let below : u.due < u.places = subst (λ o. u.due < omerge_ins o u.places) was_order within in
    let next = takes_due u k was_order below m in
    record {
      ports = length-added gots k m ∙ t.ports ∙ sym kept.places;
      flags = elim (ends_or_not m) [
        | inl end ↦ subst (λ l. FlagEnds l (added gots k m)) (sym (next.closed end)) (FlagEnds-end u.live gots k m t.flags on end)
        | inr inner ↦ subst (λ l. FlagEnds l (added gots k m)) (sym (next.live inner)) (FlagEnds-item u.live gots k m t.flags on inner)
      ];
      merged = λ live.
          let was = next.mode live in
          let here : k ≡ u.due = live_is_due u.mode u.due k was due in
          let all = merged-behind m u.places u.due gots t.ports below (next.inner live) (t.merged was) in
          subst (λ n. Merged n (omerge_takes u k m).due (added gots k m)) (sym kept.places)
          (subst (λ d. Merged u.places d (added gots k m)) (sym (next.due live)) (subst (λ i. Merged u.places (due_behind u.places u.due m) (added gots i m)) (sym here) all));
    }

-- both kinds of ties
abbrev Both : OMergeState → List (List Message) → List (List Message) → Type 0
Both u gots puts = IsTied u gots puts × Keeps u gots puts

keeps-of : (u v : OMergeState) (gots puts puts' : List (List Message)) → v.places ≡ u.places → v.order ≡ u.order → v.told ≡ u.told → v.live ≡ u.live
    → (v.mode ≡ Live → (u.mode ≡ Live) × (v.due ≡ u.due)) → Keeps u gots puts → Keeps v gots puts'
keeps-of u v gots puts puts' places order told live mode h some is_turn untold =
    let t = h (subst (λ n. 1 ≤ n) places some) (sym order ∙ is_turn) (sym told ∙ untold) in
    record {
      ports = t.ports ∙ sym places;
      flags = subst (λ l. FlagEnds l gots) (sym live) t.flags;
      merged = λ on.
          let was = mode on in
          subst (λ n. Merged n v.due gots) (sym places) (subst (λ d. Merged u.places d gots) (sym was.1) (t.merged was.0));
    }

step_keeps : (u : OMergeState) (gots puts : List (List Message)) (act : Act) (v : OMergeState) → IsTied u gots puts → Keeps u gots puts → OMergeStep u act v → Keeps v (took act gots) (gave act puts)
step_keeps u gots puts (Took k m) v t h s = subst (λ w. Keeps w (added gots k m) puts) (sym s.3) (takes_keeps u gots puts k m h s.1 s.2 t.due)
step_keeps u gots puts (Gave k m) v t h s =
    subst (λ w. Keeps w gots (added puts k m)) (sym s.2) (keeps-of u (record u { held = v.held }) gots puts (added puts k m) refl refl refl refl (λ on. (on, refl)) h)
step_keeps u gots puts Refused v t h s =
    subst (λ w. Keeps w gots puts) (sym s.1) (keeps-of u (record u { held = AbortMsg ∷ []; mode = Cut; end = Memory }) gots puts puts refl refl refl refl (λ on. let e : Cut ≡ Live = on in cc) h)
step_keeps u gots puts Idle v t h (inl e) = subst (λ w. Keeps w gots puts) (sym e) h
step_keeps u gots puts Idle v t h (inr s) = subst (λ w. Keeps w gots puts) (sym s.2) (keeps-of u (record u { done = true }) gots puts puts refl refl refl refl (λ on. (on, refl)) h)
step_keeps u gots puts Told v t h s = subst (λ w. Keeps w gots puts) (sym s.1) (λ some order told. absurd (false≢true (sym told)))
step_keeps u gots puts (Handed x) v t h s = absurd s

start_keeps : (u : OMergeState) → Keeps (opening_omerge u) (replicate (omerge_ins u.order u.places) []) ([] ∷ [])
start_keeps u some order told =
    let ins : omerge_ins u.order u.places ≡ u.places = ap (λ o. omerge_ins o u.places) order in
    record {
      ports = length-replicate {A = List Message} (omerge_ins u.order u.places) [] ∙ ins;
      flags = FlagEnds-start (omerge_ins u.order u.places);
      merged = λ on. record {
        number = 0;
        is_due = ap (λ o. first_due o u.places) order;
        each = λ j low. ap marks (at-none (omerge_ins u.order u.places) j);
      };
    }

runs_both : (u : OMergeState) (gots puts : List (List Message)) → 1 ≤ u.places → HasRun OMergeStep (opening_omerge u) (omerge_ins u.order u.places) 1 u gots puts → Both u gots puts
runs_both u gots puts some run =
    HasRun-keeps OMergeStep Both (opening_omerge u) (omerge_ins u.order u.places) 1 (IsTied-start u.order u.places some, start_keeps u)
    (λ w gs ps act v both s. (IsTied-step w gs ps act v both.0 s, step_keeps w gs ps act v both.0 both.1 s)) u gots puts run

-- once no in gives any more, the end was told
told_at : (mode : Mode) (u : OMergeState) (gots : List (List Message)) (t : List Message) → 1 ≤ u.places → any_live u.live ≡ false
    → TiedAt mode u.order u.places u.due u.live u.end gots t → HasEnd t
told_at Live u gots t some none tied = absurd (false≢true (sym none ∙ ap any_live tied.all ∙ any_live-all (omerge_ins u.order u.places) (ins_some u.order)))
  where
    ins_some : (order : Order) → 1 ≤ omerge_ins order u.places
    ins_some InTurn = some
    ins_some ByPick = omega arith
told_at Shut u gots t some none tied =
    subst HasEnd (sym tied.is) (HasEnd-right (carried tied.ys) (eos_after (any_live u.live)) (subst (λ any. HasEnd (eos_after any)) (sym none) tt))
told_at Cut u gots t some none tied = subst HasEnd (sym tied.is) (HasEnd-right tied.before (AbortMsg ∷ []) tt)

module _ (u : OMergeState) (gots puts : List (List Message)) (ran : Ran omerge_does u gots puts) (order : u.order ≡ InTurn) (told : u.told ≡ false) (before after : Known) (free : IsFree 1 after) where
  tied : IsTied u gots puts
  tied = (runs_both u gots puts ran.0.0 ran.1).0

  keeps : OMergeKeeps u gots
  keeps = (runs_both u gots puts ran.0.0 ran.1).1 ran.0.0 order told

  lives : length u.live ≡ u.places
  lives = tied.lives ∙ ap (λ o. omerge_ins o u.places) order

  within : (k : ℕ) → k < u.places → k < length u.live
  within k below = subst (λ n. k < n) (sym lives) below

  has_ended : u.done ≡ true → Rested u.places 1 gots puts after u.done
  has_ended done =
      let ended = tied.ended done in
      let put : HasEnd tied.put =
      subst HasEnd (ap (λ h. tied.put ++ h) ended.0 ∙ append-nil tied.put) (told_at u.mode u gots (tied.put ++ u.held) tied.some ended.1 tied.tied) in
      let out : HasEnd (at puts 0) = subst (λ ps. HasEnd (at ps 0)) (sym tied.puts_are) put in
      record {
        dry = λ k below. inl (none_ended u.live gots k keeps.flags ended.1 (within k below));
        ends = λ each. (done, λ k below. let none : k ≡ 0 = omega (arith, below) in subst (λ j. HasEnd (at puts j)) (sym none) out);
      }

  -- no live in gave anything
  all_dry : any_live u.live ≡ true → AllDry u.live before after → Rested u.places 1 gots puts after u.done
  all_dry goes dry = record {
    dry = λ k below. elim (live_or_ended u.live gots k keeps.flags (within k below)) [ inl live ↦ inr (dry k live).1 | inr ended ↦ inl ended ];
    ends = λ each. absurd (false≢true (sym (all_ended-none u.live gots keeps.flags (λ k below. each k (subst (λ n. k < n) lives below))) ∙ goes));
  }

  by_mode : (mode : Mode) → u.mode ≡ mode → any_live u.live ≡ true → GaveNothing mode u.due u.live before after → AwaitsIn u.places gots after ⊎ Rested u.places 1 gots puts after u.done
  by_mode Shut is goes dry = inr (all_dry goes dry)
  by_mode Cut is goes dry = inr (all_dry goes dry)
  by_mode Live is goes dry =
      let merged = keeps.merged is in
      let live = (OMergeReady-tied u gots puts tied).merging is in
      inl (record {
        number = merged.number;
        dry = subst (λ d. slice_index after.knowns d ≡ 0) merged.is_due dry.1;
        unclosed = subst (λ d. HasEnd (at gots d) → ⊥) merged.is_due (live_open u.live gots u.due keeps.flags live);
        merged = merged.each;
      })

  stalled : (held : List Message) (any : Bool) → any_live u.live ≡ any → OMergeStalls held any u before after → AwaitsIn u.places gots after ⊎ Rested u.places 1 gots puts after u.done
  stalled (m ∷ held) any is stalls = absurd (free.rooms 0 (omega arith) stalls.1)
  stalled [] false is stalls = absurd (stalls free.idle)
  stalled [] true is stalls = by_mode u.mode refl is stalls

  pub omerge_rests : AtRest omerge_does u before after → AwaitsIn u.places gots after ⊎ Rested u.places 1 gots puts after u.done
  omerge_rests rest = elim rest [ inl done ↦ inr (has_ended done) | inr stalls ↦ stalled u.held (any_live u.live) refl stalls ]
