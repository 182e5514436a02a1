-- No step of a stage changes what it was before its first step, whatever it holds behind the sends of a record.
use Rattle.std.specs.Prelude.{◌≡◌, Bool, true, false, List, Option, None}
use Rattle.std.proofs.Common.{◌∙◌, ap, ap₂, sym, refl, subst, inl, inr}
use Rattle.ff_rec.specs.Lines.{Rec}
use Rattle.ff_rec.specs.declared.msg.Msg.TheVariants.{Item, Mark, Pick, Eos as EosMsg, Abort as AbortMsg}
use Rattle.ff_node.specs.Behaviour.{Behaviour, KeepsKind}
use Rattle.ff_node.specs.Runs.{Message, Act, Took, Gave, Refused, Idle, Told, Handed}
use Rattle.ff_port.specs.declared.answers.End.{End}
use Rattle.ff_unit.specs.Stage.{StageState, started, opening_stage}
use Rattle.ff_unit.specs.StageSteps.{StageStep, StageTakes, GivesUp, works}
use Rattle.ff_unit.specs.Units.{taken_by, told_by}
use Rattle.ff_unit.specs.declared.mode.Mode.{Mode}
use Rattle.ff_unit.specs.declared.mode.Mode.TheVariants.{Live, Shut, Cut}

-- what no message that is taken changes
pub record IsKept {N : Type 0} (b : Behaviour N) (u v : StageState N) : Type 0 where
  pub opening : b.opening v.node ≡ b.opening u.node
  pub keeps : v.keeps ≡ u.keeps
  pub done : v.done ≡ u.done
  pub told : v.told ≡ u.told
  pub taken : v.taken ≡ u.taken

-- where no more changes than what is held, the mode and the end that is decided
stays : {N : Type 0} (b : Behaviour N) (u v : StageState N) (held : List Message) (mode : Mode) (fin : Option End)
    → v ≡ record u { held = held; mode = mode; fin = fin } → IsKept b u v
stays b u v held mode fin e = subst (IsKept b u) (sym e) (record { opening = refl; keeps = refl; done = refl; told = refl; taken = refl })

-- a node that is given up is the same at its opening
gives_up : {N : Type 0} (b : Behaviour N) (u v : StageState N) (fin : Option End) → GivesUp b u fin v → IsKept b u v
gives_up b u v fin g = record { opening = g.kind; keeps = g.keeps; done = g.done; told = g.told; taken = g.taken }

module _ {N : Type 0} (b : Behaviour N) (behind : List Message) (kind : KeepsKind b) where
  -- a node that works on a record, whether or not it ends
  works-kept : (u : StageState N) (x : Rec) (ends : Bool) → b.ends u.node x ≡ ends → IsKept b u (works b behind u x)
  works-kept u x true e = rw e (record { opening = kind.opening_of_opening (b.next u.node x) ∙ kind.opening_of_next u.node x; keeps = refl; done = refl; told = refl; taken = refl })
  works-kept u x false e = rw e (record { opening = kind.opening_of_next u.node x; keeps = refl; done = refl; told = refl; taken = refl })

  -- a message is taken
  pub StageTakes-kept : (mode : Mode) (u : StageState N) (m : Message) (v : StageState N) → StageTakes b behind mode u m v → IsKept b u v
  StageTakes-kept Live u (Item x) v (inl e) = subst (IsKept b u) (sym e) (works-kept u x (b.ends u.node x) refl)
  StageTakes-kept Live u (Item x) v (inr g) = gives_up b u v None g
  StageTakes-kept Live u Mark v e = stays b u v _ _ _ e
  StageTakes-kept Live u (Pick w) v e = stays b u v _ _ _ e
  StageTakes-kept Live u EosMsg v (inl e) = subst (IsKept b u) (sym e) (record { opening = kind.opening_of_opening u.node; keeps = refl; done = refl; told = refl; taken = refl })
  StageTakes-kept Live u EosMsg v (inr g) = gives_up b u v _ g
  StageTakes-kept Live u AbortMsg v e = stays b u v _ _ _ e
  StageTakes-kept Shut u (Item x) v e = stays b u v _ _ _ e
  StageTakes-kept Shut u Mark v e = stays b u v _ _ _ e
  StageTakes-kept Shut u (Pick w) v e = stays b u v _ _ _ e
  StageTakes-kept Shut u EosMsg v e = stays b u v _ _ _ e
  StageTakes-kept Shut u AbortMsg v e = stays b u v _ _ _ e
  StageTakes-kept Cut u (Item x) v e = stays b u v _ _ _ e
  StageTakes-kept Cut u Mark v e = stays b u v _ _ _ e
  StageTakes-kept Cut u (Pick w) v e = stays b u v _ _ _ e
  StageTakes-kept Cut u EosMsg v e = stays b u v _ _ _ e
  StageTakes-kept Cut u AbortMsg v e = stays b u v _ _ _ e

  -- one step
  pub opening_stage-step : (u : StageState N) (act : Act) (v : StageState N) → StageStep b behind u act v → opening_stage b v ≡ opening_stage b u
  opening_stage-step u (Took k m) v s = let kept = StageTakes-kept u.mode u m v s.3 in ap₂ started kept.opening kept.keeps
  opening_stage-step u (Gave k m) v s = ap (opening_stage b) s.2
  opening_stage-step u Refused v s = ap (opening_stage b) s.1
  opening_stage-step u Idle v (inl e) = ap (opening_stage b) e
  opening_stage-step u Idle v (inr s) = ap (opening_stage b) s.2
  opening_stage-step u Told v s = ap (opening_stage b) s.3
  opening_stage-step u (Handed x) v s = ap (opening_stage b) s.1

  -- what was taken out
  pub taken-step : (u : StageState N) (act : Act) (v : StageState N) → StageStep b behind u act v → v.taken ≡ taken_by act u.taken
  taken-step u (Took k m) v s = (StageTakes-kept u.mode u m v s.3).taken
  taken-step u (Gave k m) v s = ap (λ w. w.taken) s.2
  taken-step u Refused v s = ap (λ w. w.taken) s.1
  taken-step u Idle v (inl e) = ap (λ w. w.taken) e
  taken-step u Idle v (inr s) = ap (λ w. w.taken) s.2
  taken-step u Told v s = ap (λ w. w.taken) s.3
  taken-step u (Handed x) v s = ap (λ w. w.taken) s.1

  -- whether it was told to abort
  pub told-step : (u : StageState N) (act : Act) (v : StageState N) → StageStep b behind u act v → v.told ≡ told_by act u.told
  told-step u (Took k m) v s = (StageTakes-kept u.mode u m v s.3).told
  told-step u (Gave k m) v s = ap (λ w. w.told) s.2
  told-step u Refused v s = ap (λ w. w.told) s.1
  told-step u Idle v (inl e) = ap (λ w. w.told) e
  told-step u Idle v (inr s) = ap (λ w. w.told) s.2
  told-step u Told v s = ap (λ w. w.told) s.3
  told-step u (Handed x) v s = ap (λ w. w.told) s.1
