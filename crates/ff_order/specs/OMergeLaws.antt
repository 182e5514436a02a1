-- An ordered merge keeps the laws of a unit.
use Rattle.std.proofs.Common.{◌≡◌, Bool, true, false, List, [], ◌∷◌, Some, refl, sym, ap, ap₂, ◌∙◌, subst, inl, inr}
use Rattle.std.specs.Prelude.{IsSome}
use Rattle.ff_rec.specs.declared.msg.Msg.TheVariants.{Abort as AbortMsg}
use Rattle.ff_node.specs.Runs.{Message, Act, Took, Gave, Refused, Idle, Told, Handed, Leads}
use Rattle.ff_port.specs.declared.answers.End.{End}
use Rattle.ff_port.specs.declared.answers.End.TheVariants.{Eos, Abort}
use Rattle.ff_unit.specs.Closing.{any_live, none_live, decided}
use Rattle.ff_unit.specs.FlagLaws.{any_live-none}
use Rattle.ff_unit.specs.ShortLaws.{decided-memory}
use Rattle.ff_unit.specs.Units.{IsUnit, Ran, told_by, taken_by, told_acts}
use Rattle.ff_unit.specs.declared.mode.Mode.TheVariants.{Cut}
use Rattle.ff_order.specs.OMerges.{OMergeState, OMergeStep, omerge_ins, opened_omerge, opening_omerge, aborted_omerge, omerge_does}
use Rattle.ff_order.specs.OMergeFitsLaws.{OMergeReady-tied, BeginsToFit-tied, FitsWhole-tied}
use Rattle.ff_order.specs.OMergeKeptLaws.{omerge_takes-kept}
use Rattle.ff_order.specs.OMergeShortLaws.{short_omerge-step}
use Rattle.ff_order.specs.OMergeRunLaws.{HasRun-tied}
use Rattle.ff_order.specs.OMergeTiedLaws.{IsTied}

-- no act changes its order, its places, or what it was told, but for being told
opening-step : (u : OMergeState) (act : Act) (v : OMergeState) → OMergeStep u act v → opening_omerge v ≡ opening_omerge u
opening-step u (Took k m) v s =
    let kept = omerge_takes-kept u k m in ap opening_omerge s.3 ∙ ap₂ opened_omerge kept.order kept.places
opening-step u (Gave k m) v s = ap opening_omerge s.2
opening-step u Refused v s = ap opening_omerge s.1
opening-step u Idle v (inl e) = ap opening_omerge e
opening-step u Idle v (inr s) = ap opening_omerge s.2
opening-step u Told v s = ap opening_omerge s.1
opening-step u (Handed x) v s = absurd s

told-step : (u : OMergeState) (act : Act) (v : OMergeState) → OMergeStep u act v → v.told ≡ told_by act u.told
told-step u (Took k m) v s = ap (λ w. w.told) s.3 ∙ (omerge_takes-kept u k m).told
told-step u (Gave k m) v s = ap (λ w. w.told) s.2
told-step u Refused v s = ap (λ w. w.told) s.1
told-step u Idle v (inl e) = ap (λ w. w.told) e
told-step u Idle v (inr s) = ap (λ w. w.told) s.2
told-step u Told v s = ap (λ w. w.told) s.1
told-step u (Handed x) v s = absurd s

taken-step : (u : OMergeState) (act : Act) (v : OMergeState) → OMergeStep u act v → [] ≡ taken_by act []
taken-step u (Took k m) v s = refl
taken-step u (Gave k m) v s = refl
taken-step u Refused v s = refl
taken-step u Idle v s = refl
taken-step u Told v s = refl
taken-step u (Handed x) v s = absurd s

-- a decided end is that end
decided-is : (b : Bool) (end fin : End) → decided b end ≡ Some fin → end ≡ fin
decided-is true end fin e = absurd (cc)
decided-is false end fin e = cc

-- one that is told to abort before its first step puts Abort and ends
Leads-aborted : (u : OMergeState) → u ≡ opening_omerge u → Leads OMergeStep u (told_acts 1) (aborted_omerge u)
Leads-aborted u fresh =
    let none : u.held ≡ [] = ap (λ s. s.held) fresh in
    let live = none_live (omerge_ins u.order u.places) in
    let told = record u { live = live; held = AbortMsg ∷ []; mode = Cut; end = Abort; told = true } in
    let given = record u { live = live; held = []; mode = Cut; end = Abort; told = true } in (
      given,
      (told, (u, refl, (fresh, refl)), (refl, refl, refl)),
      inr (
        refl,
        any_live-none (omerge_ins u.order u.places),
        ap (λ (h : List Message). record u { live = live; held = h; mode = Cut; end = Abort; done = true; told = true }) none,
      ),
    )

tied : (u : OMergeState) (gots puts : List (List Message)) → Ran omerge_does u gots puts → IsTied u gots puts
tied u gots puts ran = HasRun-tied u gots puts ran.0.0 ran.1

pub IsUnit-omerge : IsUnit omerge_does
IsUnit-omerge = record {
  opening_kept = opening-step;
  taken_kept = taken-step;
  told_kept = told-step;
  opened = λ u. (refl, refl, refl);
  ready = λ u gots puts ran. OMergeReady-tied u gots puts (tied u gots puts ran);
  ends = λ u gots puts ran done. subst (λ b. IsSome (decided b u.end)) (sym ((tied u gots puts ran).ended done).1) refl;
  begins = λ u gots puts ran. BeginsToFit-tied u gots puts (tied u gots puts ran);
  whole = λ u gots puts ran done fin. FitsWhole-tied u gots puts (tied u gots puts ran) done (decided-is (any_live u.live) u.end Eos fin);
  rejects_are = λ u gots puts ran done fin. record { number_is = refl; kept_are = λ keeps. refl; none = λ keeps. refl };
  causes = λ u gots puts ran fin. (tied u gots puts ran).cause (decided-is (any_live u.live) u.end Abort fin);
  not_short = λ u. (refl, refl);
  short_ends = λ u. decided-memory (any_live u.live) u.end;
  short_by = short_omerge-step;
  asks_kept = λ u act v s asks. asks;
  aborts_by = Leads-aborted;
}
