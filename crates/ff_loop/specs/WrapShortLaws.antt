-- The master of a wrap becomes short of memory while it works, or at a refused put.
use Rattle.std.specs.Prelude.{◌≡◌, ◌⊎◌, ℕ, Bool, true, false, if◌then◌else◌, List, [], ◌∷◌, slice_set}
use Rattle.std.proofs.Common.{refl, sym, ap, ◌∙◌, inl, inr}
use Rattle.std.proofs.lemmas.Bool.{false≢true}
use Rattle.ff_rec.specs.declared.msg.Msg.TheVariants.{Item, Mark, Pick, Eos as EosMsg, Abort as AbortMsg}
use Rattle.ff_node.specs.Runs.{Message, Act, Took, Gave, Refused, Idle, Told, Handed}
use Rattle.ff_unit.specs.Closing.{any_live, is_memory}
use Rattle.ff_unit.specs.DealPairLaws.{Pair}
use Rattle.ff_unit.specs.StageUnit.{is_live}
use Rattle.ff_unit.specs.Units.{LacksBy}
use Rattle.ff_unit.specs.declared.mode.Mode.{Mode}
use Rattle.ff_unit.specs.declared.mode.Mode.TheVariants.{Live, Shut, Cut}
use Rattle.ff_loop.specs.Rounds.{workers_of}
use Rattle.ff_loop.specs.WrapMasters.{WrapState, WrapStep, WrapTakes, Pulls, closes_last, shut_takes, cut_takes}

-- one that doesn't work any more: it is short only where it was, and never works again
record StaysIdle (u v : WrapState) : Type 0 where
  short : is_memory v.end ≡ true → is_memory u.end ≡ true
  idle : is_live v.mode ≡ false

StaysIdle-same : (u v w : WrapState) → v ≡ w → is_live w.mode ≡ false → w.end ≡ u.end → StaysIdle u v
StaysIdle-same u v w e idle end = record { short = λ h. sym (ap is_memory (ap (λ s. s.end) e ∙ end)) ∙ h; idle = ap (λ s. is_live s.mode) e ∙ idle }

closes_last-is : (w : WrapState) (any : Bool) → is_live w.mode ≡ false
    → StaysIdle w (if any then w else record w { held = (workers_of w.round, EosMsg) ∷ [] })
closes_last-is w true idle = record { short = λ h. h; idle = idle }
closes_last-is w false idle = record { short = λ h. h; idle = idle }

-- it takes a message
takes-idle : (mode : Mode) (u : WrapState) (k : ℕ) (m : Message) (w : WrapState) → u.mode ≡ mode → is_live mode ≡ false → WrapTakes mode u k m w → StaysIdle u w
takes-idle Live u k m w is off t = absurd (false≢true (sym off))
takes-idle Shut u k (Item x) w is off t = StaysIdle-same u w u t (ap is_live is ∙ off) refl
takes-idle Shut u k Mark w is off t = StaysIdle-same u w u t (ap is_live is ∙ off) refl
takes-idle Shut u k (Pick i) w is off t = StaysIdle-same u w u t (ap is_live is ∙ off) refl
takes-idle Shut u k EosMsg w is off t =
    let x = record u { live = slice_set u.live k false } in
    let closed = closes_last-is x (any_live x.live) (ap is_live is ∙ off) in
    record { short = λ h. closed.short (sym (ap (λ s. is_memory s.end) t) ∙ h); idle = ap (λ s. is_live s.mode) t ∙ closed.idle }
takes-idle Shut u k AbortMsg w is off t =
    record { short = λ h. absurd (false≢true (sym (ap (λ s. is_memory s.end) t) ∙ h)); idle = ap (λ s. is_live s.mode) t }
takes-idle Cut u k (Item x) w is off t = StaysIdle-same u w u t (ap is_live is ∙ off) refl
takes-idle Cut u k Mark w is off t = StaysIdle-same u w u t (ap is_live is ∙ off) refl
takes-idle Cut u k (Pick i) w is off t = StaysIdle-same u w u t (ap is_live is ∙ off) refl
takes-idle Cut u k EosMsg w is off t = StaysIdle-same u w (cut_takes u k EosMsg) t (ap is_live is ∙ off) refl
takes-idle Cut u k AbortMsg w is off t = StaysIdle-same u w (cut_takes u k AbortMsg) t (ap is_live is ∙ off) refl

-- and goes on to nothing
pulls-idle : (mode : Mode) (held : List Pair) (w v : WrapState) → is_live mode ≡ false → Pulls mode held w v → v ≡ w
pulls-idle Live held w v off p = absurd (false≢true (sym off))
pulls-idle Shut held w v off p = p
pulls-idle Cut held w v off p = p

then-idle : (u w v : WrapState) → StaysIdle u w → v ≡ w → StaysIdle u v
then-idle u w v first e = record { short = λ h. first.short (sym (ap (λ s. is_memory s.end) e) ∙ h); idle = ap (λ s. is_live s.mode) e ∙ first.idle }

-- a message is taken or put
took-idle : (u : WrapState) (k : ℕ) (m : Message) (v : WrapState) → is_live u.mode ≡ false → WrapStep u (Took k m) v → StaysIdle u v
took-idle u k m v off s =
    let taken = takes-idle u.mode u k m s.2 refl off s.3 in
    then-idle u s.2 v taken (pulls-idle s.2.mode s.2.held s.2 v taken.idle s.4)

gave-idle : (u : WrapState) (k : ℕ) (m : Message) (v : WrapState) → is_live u.mode ≡ false → WrapStep u (Gave k m) v → StaysIdle u v
gave-idle u k m v off s =
    let given = StaysIdle-same u s.0 (record u { held = s.0.held }) s.2 off refl in
    then-idle u s.0 v given (pulls-idle s.0.mode s.0.held s.0 v given.idle s.3)

works-or-not : (u : WrapState) → (is_live u.mode ≡ true) ⊎ (is_live u.mode ≡ false)
works-or-not u = by u.mode
  where
    by : (mode : Mode) → (is_live mode ≡ true) ⊎ (is_live mode ≡ false)
    by Live = inl refl
    by Shut = inr refl
    by Cut = inr refl

pub short_wrap-step : (u : WrapState) (act : Act) (v : WrapState) → WrapStep u act v → is_memory v.end ≡ true → (is_memory u.end ≡ true) ⊎ LacksBy (is_live u.mode) act
short_wrap-step u (Took k m) v s short = elim (works-or-not u) [ inl on ↦ inr on | inr off ↦ inl ((took-idle u k m v off s).short short) ]
short_wrap-step u (Gave k m) v s short = elim (works-or-not u) [ inl on ↦ inr on | inr off ↦ inl ((gave-idle u k m v off s).short short) ]
short_wrap-step u Refused v s short = inr tt
short_wrap-step u Idle v (inl e) short = inl (sym (ap (λ w. is_memory w.end) e) ∙ short)
short_wrap-step u Idle v (inr s) short = inl (sym (ap (λ w. is_memory w.end) s.2) ∙ short)
short_wrap-step u Told v s short = absurd (false≢true (sym (ap (λ w. is_memory w.end) s.1) ∙ short))
short_wrap-step u (Handed x) v s short = absurd s

pub live_wrap-step : (u : WrapState) (act : Act) (v : WrapState) → WrapStep u act v → is_live v.mode ≡ true → is_live u.mode ≡ true
live_wrap-step u (Took k m) v s live = elim (works-or-not u) [ inl on ↦ on | inr off ↦ absurd (false≢true (sym (took-idle u k m v off s).idle ∙ live)) ]
live_wrap-step u (Gave k m) v s live = elim (works-or-not u) [ inl on ↦ on | inr off ↦ absurd (false≢true (sym (gave-idle u k m v off s).idle ∙ live)) ]
live_wrap-step u Refused v s live = absurd (false≢true (sym (ap (λ w. is_live w.mode) s.1) ∙ live))
live_wrap-step u Idle v (inl e) live = sym (ap (λ w. is_live w.mode) e) ∙ live
live_wrap-step u Idle v (inr s) live = sym (ap (λ w. is_live w.mode) s.2) ∙ live
live_wrap-step u Told v s live = absurd (false≢true (sym (ap (λ w. is_live w.mode) s.1) ∙ live))
live_wrap-step u (Handed x) v s live = absurd s
