-- A unit is refused memory at most once, and one that was cut off ends so.
use Rattle.std.specs.Prelude.{slice_set, IsSome}
use Rattle.std.proofs.Common.{◌≡◌, ℕ, Bool, true, false, if◌then◌else◌, List, [], ◌∷◌, ◌++◌, Option, None, Some, refl, sym, ap, ◌∙◌, subst, inl, inr, ltb}
use Rattle.std.specs.List.{AllByRecursion}
use Rattle.std.proofs.lemmas.Bool.{false≢true}
use Rattle.ff_rec.specs.Lines.{Rec}
use Rattle.ff_rec.specs.declared.msg.Msg.TheVariants.{Item, Mark, Pick, Eos as EosMsg, Abort as AbortMsg}
use Rattle.ff_node.specs.Behaviour.{Behaviour, KeepsKind}
use Rattle.ff_node.specs.Comb.{Part, comb_node}
use Rattle.ff_node.specs.CombKindLaws.{comb_keeps_kind}
use Rattle.ff_node.specs.Runs.{Message, Act, Took, Gave, Refused, Idle, Told, Handed, took, gave, HasRun}
use Rattle.ff_port.specs.declared.answers.End.{End}
use Rattle.ff_port.specs.declared.answers.End.TheVariants.{Eos, Abort, Memory}
use Rattle.ff_unit.specs.Closing.{any_live, told_first, told_well, spoiled, decided}
use Rattle.ff_unit.specs.DealKeptLaws.{HasRun-tied_deal}
use Rattle.ff_unit.specs.DealTellingLaws.{IsTelling-refuses}
use Rattle.ff_unit.specs.DealTiedLaws.{TiedAt as DealTiedAt}
use Rattle.ff_unit.specs.Deals.{DealState, MayBeRefused}
use Rattle.ff_unit.specs.Merges.{MergeState, MergeStep, merge_takes, merge_closes, forwarded, opening_merge}
use Rattle.ff_unit.specs.RunLaws.{HasRun-keeps}
use Rattle.ff_unit.specs.Stage.{StageState, opening_stage}
use Rattle.ff_unit.specs.StageKeptLaws.{HasRun-tied}
use Rattle.ff_unit.specs.StageSteps.{StageStep, StageTakes, ShutTakes, CutTakes, IsOpenFront, works}
use Rattle.ff_unit.specs.StageTiedLaws.{TiedAt}
use Rattle.ff_unit.specs.Units.{IsUnit, Ran}
use Rattle.ff_unit.specs.declared.mode.Mode.{Mode}
use Rattle.ff_unit.specs.declared.mode.Mode.TheVariants.{Live, Shut, Cut}
use Rattle.ff_order.specs.OMergeRunLaws.{HasRun-tied as HasRun-omerge}
use Rattle.ff_order.specs.OMergeTiedLaws.{TiedAt as OMergeTiedAt}
use Rattle.ff_order.specs.OMerges.{OMergeState, OMergeStep, omerge_takes, omerge_gets, omerge_ended, omerge_spoiled, omerge_closes, gets_group, gets_pick, opening_omerge}
use Rattle.ff_steps.specs.Core.{is_cut_off}
use Rattle.ff_steps.specs.NetUnitLaws.{Ran-stage, Ran-deal, Ran-merge, Ran-omerge}
use Rattle.ff_steps.specs.NetUnits.{NetState, AsStage, AsDeal, AsMerge, AsOMerge, AsMaster, AsWorker, NetStep, net_does}
use Rattle.ff_sweeps.specs.Cuts.{is_cut, is_cut_mode, is_memory, IsPlainUnit}

abbrev IsAbort : Message → Type 0
IsAbort (Item x) = ⊥
IsAbort Mark = ⊥
IsAbort (Pick w) = ⊥
IsAbort EosMsg = ⊥
IsAbort AbortMsg = Unit {0}

abbrev OnlyAborts : List Message → Type 0
OnlyAborts ms = AllByRecursion IsAbort ms

aborts_closed : (ms : List Message) → OnlyAborts ms → IsOpenFront ms → ⊥
aborts_closed [] all front = front
aborts_closed (Item x ∷ ms) all front = all.0
aborts_closed (Mark ∷ ms) all front = all.0
aborts_closed (Pick w ∷ ms) all front = all.0
aborts_closed (EosMsg ∷ ms) all front = all.0
aborts_closed (AbortMsg ∷ ms) all front = front

-- a stage
module _ {S : Type 0} (b : Behaviour S) where
  abbrev StageCut : StageState S → List (List Message) → List (List Message) → Type 0
  StageCut u gots puts = is_cut_mode u.mode ≡ true → OnlyAborts u.held

  works_cut : (u : StageState S) (x : Rec) → is_cut_mode u.mode ≡ false → (ends : Bool) → b.ends u.node x ≡ ends → is_cut_mode (works b [] u x).mode ≡ false
  works_cut u x live true e = rw e refl
  works_cut u x live false e = rw e live

  takes_cut : (mode : Mode) (u : StageState S) (m : Message) (v : StageState S) → u.mode ≡ mode → u.held ≡ [] → StageTakes b [] mode u m v → is_cut_mode v.mode ≡ true → OnlyAborts v.held
  takes_cut Live u (Item x) v is none (inl e) cut =
      absurd (false≢true (sym (ap (λ w. is_cut_mode w.mode) e ∙ works_cut u x (ap is_cut_mode is) (b.ends u.node x) refl) ∙ cut))
  takes_cut Live u (Item x) v is none (inr g) cut = subst OnlyAborts (sym g.held) (tt, tt)
  takes_cut Live u Mark v is none e cut = absurd (false≢true (sym (ap (λ w. is_cut_mode w.mode) e ∙ ap is_cut_mode is) ∙ cut))
  takes_cut Live u (Pick w) v is none e cut = absurd (false≢true (sym (ap (λ x. is_cut_mode x.mode) e ∙ ap is_cut_mode is) ∙ cut))
  takes_cut Live u EosMsg v is none (inl e) cut = absurd (false≢true (sym (ap (λ w. is_cut_mode w.mode) e) ∙ cut))
  takes_cut Live u EosMsg v is none (inr g) cut = subst OnlyAborts (sym g.held) (tt, tt)
  takes_cut Live u AbortMsg v is none e cut = subst (λ w. OnlyAborts w.held) (sym e) (tt, tt)
  takes_cut Shut u m v is none takes cut = absurd (false≢true (sym (shut m takes ∙ ap is_cut_mode is) ∙ cut))
    where
      shut : (m : Message) → ShutTakes u m v → is_cut_mode v.mode ≡ is_cut_mode u.mode
      shut (Item x) e = ap (λ w. is_cut_mode w.mode) e
      shut Mark e = ap (λ w. is_cut_mode w.mode) e
      shut (Pick w) e = ap (λ x. is_cut_mode x.mode) e
      shut EosMsg e = ap (λ w. is_cut_mode w.mode) e
      shut AbortMsg e = ap (λ w. is_cut_mode w.mode) e
  takes_cut Cut u m v is none takes cut = subst OnlyAborts (sym (held m takes ∙ none)) tt
    where
      held : (m : Message) → CutTakes u m v → v.held ≡ u.held
      held (Item x) e = ap (λ w. w.held) e
      held Mark e = ap (λ w. w.held) e
      held (Pick w) e = ap (λ x. x.held) e
      held EosMsg e = ap (λ w. w.held) e
      held AbortMsg e = ap (λ w. w.held) e

  stage_cut : (u : StageState S) (gots puts : List (List Message)) (act : Act) (v : StageState S) → StageCut u gots puts → StageStep b [] u act v → StageCut v (took act gots) (gave act puts)
  stage_cut u gots puts (Took k m) v h s = takes_cut u.mode u m v refl s.1 s.3
  stage_cut u gots puts (Gave k m) v h s = λ cut. (subst OnlyAborts s.1 (h (sym (ap (λ w. is_cut_mode w.mode) s.2) ∙ cut))).1
  stage_cut u gots puts Refused v h s = λ cut. subst (λ w. OnlyAborts w.held) (sym s.1) (tt, tt)
  stage_cut u gots puts Idle v h (inl e) = subst (λ w. StageCut w gots puts) (sym e) h
  stage_cut u gots puts Idle v h (inr s) = subst (λ w. StageCut w gots puts) (sym s.2) h
  stage_cut u gots puts Told v h s = λ cut. subst (λ w. OnlyAborts w.held) (sym s.3) (tt, tt)
  stage_cut u gots puts (Handed x) v h s = subst (λ w. StageCut w gots puts) (sym s.1) h

  stage_aborts : (u : StageState S) (gots puts : List (List Message)) → HasRun (StageStep b []) (opening_stage b u) 1 1 u gots puts → StageCut u gots puts
  stage_aborts u gots puts run = HasRun-keeps (StageStep b []) StageCut (opening_stage b u) 1 1 (λ cut. absurd (false≢true cut)) stage_cut u gots puts run

-- a merge
abbrev MergeCut : MergeState → List (List Message) → List (List Message) → Type 0
MergeCut u gots puts = is_memory u.end ≡ true → OnlyAborts u.held

closes_cut : (w : MergeState) → w.held ≡ [] → is_memory (merge_closes w).end ≡ true → OnlyAborts (merge_closes w).held
closes_cut w none = by (any_live w.live) refl
  where
    told : (end : End) → is_memory end ≡ true → OnlyAborts (told_well end)
    told Eos cut = absurd (false≢true cut)
    told Abort cut = absurd (false≢true cut)
    told Memory cut = tt

    by : (any : Bool) → any_live w.live ≡ any → is_memory (merge_closes w).end ≡ true → OnlyAborts (merge_closes w).held
    by true e = rw e (λ cut. subst OnlyAborts (sym none) tt)
    by false e = rw e (told w.end)

merge_takes_cut : (u : MergeState) (k : ℕ) (m : Message) → u.held ≡ [] → is_memory (merge_takes u k m).end ≡ true → OnlyAborts (merge_takes u k m).held
merge_takes_cut u k (Item x) none cut = by u.end cut
  where
    by : (end : End) → is_memory end ≡ true → OnlyAborts (forwarded end x)
    by Eos c = absurd (false≢true c)
    by Abort c = absurd (false≢true c)
    by Memory c = tt
merge_takes_cut u k Mark none cut = subst OnlyAborts (sym none) tt
merge_takes_cut u k (Pick w) none cut = subst OnlyAborts (sym none) tt
merge_takes_cut u k EosMsg none cut = closes_cut (record u { live = slice_set u.live k false }) none cut
merge_takes_cut u k AbortMsg none cut = by u.end
  where
    by : (end : End) → OnlyAborts (told_first end)
    by Eos = (tt, tt)
    by Abort = tt
    by Memory = tt

merge_cut : (u : MergeState) (gots puts : List (List Message)) (act : Act) (v : MergeState) → MergeCut u gots puts → MergeStep u act v → MergeCut v (took act gots) (gave act puts)
merge_cut u gots puts (Took k m) v h s = subst (λ w. MergeCut w [] []) (sym s.2) (merge_takes_cut u k m s.0)
merge_cut u gots puts (Gave k m) v h s = λ cut. (subst OnlyAborts s.1 (h (sym (ap (λ w. is_memory w.end) s.2) ∙ cut))).1
merge_cut u gots puts Refused v h s = λ cut. subst (λ w. OnlyAborts w.held) (sym s.1) (tt, tt)
merge_cut u gots puts Idle v h (inl e) = subst (λ w. MergeCut w gots puts) (sym e) h
merge_cut u gots puts Idle v h (inr s) = subst (λ w. MergeCut w gots puts) (sym s.2) h
merge_cut u gots puts Told v h s = λ cut. subst (λ w. OnlyAborts w.held) (sym s.1) (tt, tt)
merge_cut u gots puts (Handed x) v h s = absurd s

merge_aborts : (u : MergeState) (gots puts : List (List Message)) (ins : ℕ) → HasRun MergeStep (opening_merge u) ins 1 u gots puts → MergeCut u gots puts
merge_aborts u gots puts ins run = HasRun-keeps MergeStep MergeCut (opening_merge u) ins 1 (λ cut. absurd (false≢true cut)) merge_cut u gots puts run

-- an ordered merge
abbrev OMergeCut : OMergeState → List (List Message) → List (List Message) → Type 0
OMergeCut u gots puts = is_cut_mode u.mode ≡ true → OnlyAborts u.held

cond_cut : (e : Bool) (x y : OMergeState) → OMergeCut x [] [] → OMergeCut y [] [] → OMergeCut (if e then x else y) [] []
cond_cut true x y left right = left
cond_cut false x y left right = right

group_cut : (u : OMergeState) (m : Message) → u.mode ≡ Live → OMergeCut (gets_group u m) [] []
group_cut u (Item x) is = λ cut. absurd (false≢true (sym (ap is_cut_mode is) ∙ cut))
group_cut u Mark is = λ cut. absurd (false≢true (sym (ap is_cut_mode is) ∙ cut))
group_cut u (Pick w) is = λ cut. absurd (false≢true (sym (ap is_cut_mode is) ∙ cut))
group_cut u EosMsg is = λ cut. absurd (false≢true (sym (ap is_cut_mode is) ∙ cut))
group_cut u AbortMsg is = λ cut. absurd (false≢true (sym (ap is_cut_mode is) ∙ cut))

pick_cut : (u : OMergeState) (m : Message) → u.mode ≡ Live → OMergeCut (gets_pick u m) [] []
pick_cut u (Item x) is = λ cut. absurd (false≢true (sym (ap is_cut_mode is) ∙ cut))
pick_cut u Mark is = λ cut. absurd (false≢true (sym (ap is_cut_mode is) ∙ cut))
pick_cut u (Pick w) is = cond_cut (ltb w u.places) (record u { due = w }) u (λ cut. absurd (false≢true (sym (ap is_cut_mode is) ∙ cut))) (λ cut. absurd (false≢true (sym (ap is_cut_mode is) ∙ cut)))
pick_cut u EosMsg is = λ cut. absurd (false≢true (sym (ap is_cut_mode is) ∙ cut))
pick_cut u AbortMsg is = λ cut. absurd (false≢true (sym (ap is_cut_mode is) ∙ cut))

gets_cut : (mode : Mode) (u : OMergeState) (m : Message) → u.mode ≡ mode → u.held ≡ [] → OMergeCut (omerge_gets mode u m) [] []
gets_cut Live u m is none = cond_cut (ltb u.due u.places) (gets_group u m) (gets_pick u m) (group_cut u m is) (pick_cut u m is)
gets_cut Shut u m is none = λ cut. subst OnlyAborts (sym none) tt
gets_cut Cut u m is none = λ cut. subst OnlyAborts (sym none) tt

ocloses_cut : (w : OMergeState) → OMergeCut (omerge_closes w) [] []
ocloses_cut w = cond_cut (any_live w.live) (record w { mode = Shut }) (record w { held = EosMsg ∷ []; mode = Shut }) (λ cut. absurd (false≢true cut)) (λ cut. absurd (false≢true cut))

ended_cut : (mode : Mode) (w : OMergeState) → w.held ≡ [] → OMergeCut (omerge_ended mode w) [] []
ended_cut Live w none = ocloses_cut w
ended_cut Shut w none = ocloses_cut w
ended_cut Cut w none = λ cut. subst OnlyAborts (sym none) tt

spoiled_cut : (mode : Mode) (w : OMergeState) → w.held ≡ [] → OMergeCut (omerge_spoiled mode w) [] []
spoiled_cut Live w none = λ cut. (tt, tt)
spoiled_cut Shut w none = λ cut. (tt, tt)
spoiled_cut Cut w none = λ cut. subst OnlyAborts (sym none) tt

otakes_cut : (u : OMergeState) (k : ℕ) (m : Message) → u.held ≡ [] → OMergeCut (omerge_takes u k m) [] []
otakes_cut u k (Item x) none = gets_cut u.mode u (Item x) refl none
otakes_cut u k Mark none = gets_cut u.mode u Mark refl none
otakes_cut u k (Pick w) none = gets_cut u.mode u (Pick w) refl none
otakes_cut u k EosMsg none = ended_cut u.mode (record u { live = slice_set u.live k false }) none
otakes_cut u k AbortMsg none = spoiled_cut u.mode (record u { live = slice_set u.live k false }) none

omerge_cut : (u : OMergeState) (gots puts : List (List Message)) (act : Act) (v : OMergeState) → OMergeCut u gots puts → OMergeStep u act v → OMergeCut v (took act gots) (gave act puts)
omerge_cut u gots puts (Took k m) v h s = subst (λ w. OMergeCut w [] []) (sym s.3) (otakes_cut u k m s.0)
omerge_cut u gots puts (Gave k m) v h s = λ cut. (subst OnlyAborts s.1 (h (sym (ap (λ w. is_cut_mode w.mode) s.2) ∙ cut))).1
omerge_cut u gots puts Refused v h s = λ cut. subst (λ w. OnlyAborts w.held) (sym s.1) (tt, tt)
omerge_cut u gots puts Idle v h (inl e) = subst (λ w. OMergeCut w gots puts) (sym e) h
omerge_cut u gots puts Idle v h (inr s) = subst (λ w. OMergeCut w gots puts) (sym s.2) h
omerge_cut u gots puts Told v h s = λ cut. subst (λ w. OnlyAborts w.held) (sym s.1) (tt, tt)
omerge_cut u gots puts (Handed x) v h s = absurd s

omerge_aborts : (u : OMergeState) (gots puts : List (List Message)) (ins : ℕ) → HasRun OMergeStep (opening_omerge u) ins 1 u gots puts → OMergeCut u gots puts
omerge_aborts u gots puts ins run = HasRun-keeps OMergeStep OMergeCut (opening_omerge u) ins 1 (λ cut. absurd (false≢true cut)) omerge_cut u gots puts run

-- a deal that was refused memory isn't again
deal_refused : (live : Bool) (end : End) (u : DealState) (g : List Message) (ps : List _) → u.free ≡ u.free → DealTiedAt live end u g ps → MayBeRefused u.free u.held → is_memory end ≡ false
deal_refused live Eos u g ps same t may = refl
deal_refused live Abort u g ps same t may = refl
deal_refused true Memory u g ps same t may = absurd (IsTelling-refuses _ AbortMsg t.front ps u.held (λ h. h) t.telling (subst (λ f. MayBeRefused f u.held) t.none may))
deal_refused false Memory u g ps same t may = absurd (IsTelling-refuses _ AbortMsg t.front ps u.held (λ h. h) t.telling (subst (λ f. MayBeRefused f u.held) t.none may))

module _ {N : Type 0} (b : Behaviour N) (kind : KeepsKind b) (laws : IsUnit (net_does b)) where
  not_true : (x : Bool) → (x ≡ true → ⊥) → x ≡ false
  not_true true no_more = absurd (no_more refl)
  not_true false no_more = refl

  -- a unit that is refused memory wasn't cut off, and is
  pub refused_cuts : (u v : NetState N) (gots puts : List (List Message)) → IsPlainUnit u → Ran (net_does b) u gots puts → NetStep b u Refused v → (is_cut u ≡ false) × (is_cut v ≡ true)
  refused_cuts (AsStage u) v gots puts plain ran s = (
    not_true (is_cut_mode u.mode) (λ cut. aborts_closed u.held (stage_aborts (comb_node b) u gots puts (Ran-stage b u gots puts ran).1 cut) s.2.0),
    ap is_cut s.1 ∙ ap (λ w. is_cut_mode w.mode) s.2.1,
  )
  refused_cuts (AsDeal u) v gots puts plain ran s =
      let t = HasRun-tied_deal u gots puts (Ran-deal b u gots puts ran).0.0 (Ran-deal b u gots puts ran).1 in
      (deal_refused u.live u.end u t.got t.given refl t.tied s.2.0, ap is_cut s.1 ∙ ap (λ w. is_memory w.end) s.2.1)
  refused_cuts (AsMerge u) v gots puts plain ran s = (
    not_true (is_memory u.end) (λ cut. aborts_closed u.held (merge_aborts u gots puts _ (Ran-merge b u gots puts ran).1 cut) s.2.0),
    ap is_cut s.1 ∙ ap (λ w. is_memory w.end) s.2.1,
  )
  refused_cuts (AsOMerge u) v gots puts plain ran s = (
    not_true (is_cut_mode u.mode) (λ cut. aborts_closed u.held (omerge_aborts u gots puts _ (Ran-omerge b u gots puts ran).1 cut) s.2.0),
    ap is_cut s.1 ∙ ap (λ w. is_cut_mode w.mode) s.2.1,
  )
  refused_cuts (AsMaster u) v gots puts plain ran s = absurd plain
  refused_cuts (AsWorker u) v gots puts plain ran s = absurd plain

  -- one that was cut off ends so
  stage_end : (mode : Mode) (o n : List (Part N)) (fin : Option End) (g t : List Message) → is_cut_mode mode ≡ true → IsSome fin → TiedAt (comb_node b) o mode n fin g t → is_cut_off fin ≡ true
  stage_end Live o n fin g t cut some tied = absurd (false≢true cut)
  stage_end Shut o n fin g t cut some tied = absurd (false≢true cut)
  stage_end Cut o n None g t cut some tied = absurd (false≢true some)
  stage_end Cut o n (Some Eos) g t cut some tied = absurd tied.ends
  stage_end Cut o n (Some Abort) g t cut some tied = refl
  stage_end Cut o n (Some Memory) g t cut some tied = refl

  memory_end : (end : End) (any : Bool) → is_memory end ≡ true → any ≡ false → is_cut_off (decided any end) ≡ true
  memory_end end true cut none = absurd (false≢true (sym none))
  memory_end Eos false cut none = absurd (false≢true cut)
  memory_end Abort false cut none = absurd (false≢true cut)
  memory_end Memory false cut none = refl

  not_eos_end : (end : End) (any : Bool) → (end ≡ Eos → ⊥) → any ≡ false → is_cut_off (decided any end) ≡ true
  not_eos_end end true other none = absurd (false≢true (sym none))
  not_eos_end Eos false other none = absurd (other refl)
  not_eos_end Abort false other none = refl
  not_eos_end Memory false other none = refl

  omerge_end : (mode : Mode) (u : OMergeState) (gots : List (List Message)) (t : List Message) → is_cut_mode mode ≡ true → any_live u.live ≡ false
      → OMergeTiedAt mode u.order u.places u.due u.live u.end gots t → is_cut_off (decided (any_live u.live) u.end) ≡ true
  omerge_end Live u gots t cut none tied = absurd (false≢true cut)
  omerge_end Shut u gots t cut none tied = absurd (false≢true cut)
  omerge_end Cut u gots t cut none tied = not_eos_end u.end (any_live u.live) tied.ends none

  pub cut_ends : (u : NetState N) (gots puts : List (List Message)) → IsPlainUnit u → Ran (net_does b) u gots puts → (net_does b).done u ≡ true → is_cut u ≡ true
      → is_cut_off ((net_does b).fin u) ≡ true
  cut_ends (AsStage u) gots puts plain ran done cut =
      let t = HasRun-tied (comb_node b) (comb_keeps_kind b kind) u gots puts (Ran-stage b u gots puts ran).1 in
      stage_end u.mode _ u.node u.fin t.got (t.put ++ u.held) cut (t.tied.done done).1 t.tied.tied
  cut_ends (AsDeal u) gots puts plain ran done cut = memory_end u.end u.live cut ((laws.ready (AsDeal u) gots puts ran).ended done).2
  cut_ends (AsMerge u) gots puts plain ran done cut = memory_end u.end (any_live u.live) cut ((laws.ready (AsMerge u) gots puts ran).ended done).1
  cut_ends (AsOMerge u) gots puts plain ran done cut =
      let t = HasRun-omerge u gots puts (Ran-omerge b u gots puts ran).0.0 (Ran-omerge b u gots puts ran).1 in
      omerge_end u.mode u gots (t.put ++ u.held) cut (t.ended done).1 t.tied
  cut_ends (AsMaster u) gots puts plain ran done cut = absurd plain
  cut_ends (AsWorker u) gots puts plain ran done cut = absurd plain
