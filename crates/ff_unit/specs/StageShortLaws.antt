-- Where a stage becomes short of memory: at a call of its live node, or at a refused put.
use Rattle.std.specs.Prelude.{◌≡◌, ◌⊎◌, Bool, true, List, Option, None, Some}
use Rattle.std.proofs.Common.{refl, sym, ap, ap₂, ◌∙◌, inl, inr}
use Rattle.std.proofs.lemmas.Bool.{false≢true}
use Rattle.ff_rec.specs.declared.msg.Msg.TheVariants.{Item, Mark, Pick, Eos as EosMsg, Abort as AbortMsg}
use Rattle.ff_node.specs.Behaviour.{Behaviour}
use Rattle.ff_node.specs.Runs.{Message, Act, Took, Gave, Refused, Idle, Told, Handed}
use Rattle.ff_port.specs.declared.answers.End.{End}
use Rattle.ff_port.specs.declared.answers.End.TheVariants.{Memory}
use Rattle.ff_unit.specs.Stage.{StageState}
use Rattle.ff_unit.specs.StageSteps.{StageStep, StageTakes}
use Rattle.ff_unit.specs.StageUnit.{is_live, short_of}
use Rattle.ff_unit.specs.Units.{LacksBy}
use Rattle.ff_unit.specs.declared.mode.Mode.{Mode}
use Rattle.ff_unit.specs.declared.mode.Mode.TheVariants.{Live, Shut, Cut}

-- one that ends by Memory is short of it
pub short_of-ends : (mode : Mode) (fin : Option End) → fin ≡ Some Memory → short_of mode fin ≡ true
short_of-ends mode fin e = ap (short_of mode) e

module _ {N : Type 0} (b : Behaviour N) (behind : List Message) where
  abbrev short : StageState N → Bool
  short w = short_of w.mode w.fin

  abbrev live : StageState N → Bool
  live w = is_live w.mode

  -- by a message that it takes
  takes-short : (mode : Mode) (u : StageState N) (m : Message) (v : StageState N) → u.mode ≡ mode → u.fin ≡ None → StageTakes b behind mode u m v
      → short_of v.mode v.fin ≡ true → (short_of u.mode u.fin ≡ true) ⊎ (is_live u.mode ≡ true)
  takes-short Live u m v is none t e = inr (ap is_live is)
  takes-short Shut u (Item x) v is none t e = inl (sym (ap short t) ∙ e)
  takes-short Shut u Mark v is none t e = inl (sym (ap short t) ∙ e)
  takes-short Shut u (Pick w) v is none t e = inl (sym (ap short t) ∙ e)
  takes-short Shut u EosMsg v is none t e = absurd (false≢true (sym (ap short t) ∙ e))
  takes-short Shut u AbortMsg v is none t e = absurd (false≢true (sym (ap short t) ∙ e))
  takes-short Cut u m v is none t e = inl (ap₂ short_of is none)

  pub short_stage-step : (u : StageState N) (act : Act) (v : StageState N) → StageStep b behind u act v → short_of v.mode v.fin ≡ true
      → (short_of u.mode u.fin ≡ true) ⊎ LacksBy (is_live u.mode) act
  short_stage-step u (Took k m) v s e = takes-short u.mode u m v refl s.2 s.3 e
  short_stage-step u (Gave k m) v s e = inl (sym (ap short s.2) ∙ e)
  short_stage-step u Refused v s e = inr tt
  short_stage-step u Idle v (inl same) e = inl (sym (ap short same) ∙ e)
  short_stage-step u Idle v (inr s) e = inl (sym (ap short s.2) ∙ e)
  short_stage-step u Told v s e = absurd (false≢true (sym (ap short s.3) ∙ e))
  short_stage-step u (Handed x) v s e = inl (sym (ap short s.1) ∙ e)

  -- a node that isn't live never is again
  takes-live : (mode : Mode) (u : StageState N) (m : Message) (v : StageState N) → u.mode ≡ mode → StageTakes b behind mode u m v → is_live v.mode ≡ true → is_live u.mode ≡ true
  takes-live Live u m v is t e = ap is_live is
  takes-live Shut u (Item x) v is t e = sym (ap live t) ∙ e
  takes-live Shut u Mark v is t e = sym (ap live t) ∙ e
  takes-live Shut u (Pick w) v is t e = sym (ap live t) ∙ e
  takes-live Shut u EosMsg v is t e = sym (ap live t) ∙ e
  takes-live Shut u AbortMsg v is t e = sym (ap live t) ∙ e
  takes-live Cut u (Item x) v is t e = sym (ap live t) ∙ e
  takes-live Cut u Mark v is t e = sym (ap live t) ∙ e
  takes-live Cut u (Pick w) v is t e = sym (ap live t) ∙ e
  takes-live Cut u EosMsg v is t e = sym (ap live t) ∙ e
  takes-live Cut u AbortMsg v is t e = sym (ap live t) ∙ e

  pub live_stage-step : (u : StageState N) (act : Act) (v : StageState N) → StageStep b behind u act v → is_live v.mode ≡ true → is_live u.mode ≡ true
  live_stage-step u (Took k m) v s e = takes-live u.mode u m v refl s.3 e
  live_stage-step u (Gave k m) v s e = sym (ap live s.2) ∙ e
  live_stage-step u Refused v s e = absurd (false≢true (sym (ap live s.1) ∙ e))
  live_stage-step u Idle v (inl same) e = sym (ap live same) ∙ e
  live_stage-step u Idle v (inr s) e = sym (ap live s.2) ∙ e
  live_stage-step u Told v s e = absurd (false≢true (sym (ap live s.3) ∙ e))
  live_stage-step u (Handed x) v s e = sym (ap live s.1) ∙ e
