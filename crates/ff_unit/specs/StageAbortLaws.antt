-- Why a stage ends by Abort, and how one ends that is told to abort before its first step.
use Rattle.std.specs.Prelude.{◌≡◌, ◌⊎◌, true, List, [], ◌∷◌, Some}
use Rattle.std.proofs.Common.{refl, sym, ap, subst, inl, inr}
use Rattle.ff_rec.specs.declared.msg.Msg.TheVariants.{Abort as AbortMsg}
use Rattle.ff_node.specs.Behaviour.{Behaviour, KeepsKind}
use Rattle.ff_node.specs.Runs.{Message, HasRun, Leads}
use Rattle.ff_port.specs.declared.answers.End.TheVariants.{Abort}
use Rattle.ff_unit.specs.Stage.{StageState, opening_stage}
use Rattle.ff_unit.specs.StageKeptLaws.{IsTiedRun, HasRun-tied}
use Rattle.ff_unit.specs.StageSteps.{StageStep}
use Rattle.ff_unit.specs.StageTiedLaws.{IsAbortEnd}
use Rattle.ff_unit.specs.StageUnit.{aborted_stage}
use Rattle.ff_unit.specs.Units.{HasAbort, TookAbort, told_acts}
use Rattle.ff_unit.specs.declared.mode.Mode.TheVariants.{Cut}

-- it was told to, or took one
pub TookAbort-stage : {N : Type 0} (b : Behaviour N) → KeepsKind b → (u : StageState N) (gots puts : List (List Message))
    → HasRun (StageStep b []) (opening_stage b u) 1 1 u gots puts → u.fin ≡ Some Abort → (u.told ≡ true) ⊎ TookAbort gots
TookAbort-stage b kind u gots puts run fin = of (HasRun-tied b kind u gots puts run)
  where
    among : (g : List Message) → gots ≡ g ∷ [] → (u.told ≡ true) ⊎ HasAbort g → (u.told ≡ true) ⊎ TookAbort gots
    among g are (inl told) = inl told
    among g are (inr has) = inr (subst TookAbort (sym are) (inl has))

    of : IsTiedRun b u gots puts → (u.told ≡ true) ⊎ TookAbort gots
    of r = among r.got r.gots_are (r.tied.cause (subst IsAbortEnd (sym fin) tt))

-- it puts Abort on its out and ends
pub Leads-aborted_stage : {N : Type 0} (b : Behaviour N) (behind : List Message) (u : StageState N) → u ≡ opening_stage b u
    → Leads (StageStep b behind) u (told_acts 1) (aborted_stage u)
Leads-aborted_stage b behind u fresh =
    let none : u.held ≡ [] = ap (λ s. s.held) fresh in
    let told = record u { held = AbortMsg ∷ []; mode = Cut; fin = Some Abort; told = true } in
    let given = record u { held = []; mode = Cut; fin = Some Abort; told = true } in (
      given,
      (told, (u, refl, (none, ap (λ s. s.mode) fresh, ap (λ s. s.fin) fresh, refl)), (refl, refl, refl)),
      inr (refl, refl, ap (λ (h : List Message). record u { held = h; mode = Cut; fin = Some Abort; done = true; told = true }) none),
    )
