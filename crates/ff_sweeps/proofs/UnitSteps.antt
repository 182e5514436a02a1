-- What a step does to a unit that has ended, or was cut off, and where it takes and gives.
use Rattle.std.specs.Prelude.{slice_set, IsSome}
use Rattle.std.proofs.Common.{◌≡◌, ◌⊎◌, ℕ, ◌<◌, Bool, true, false, List, [], ◌∷◌, length, Option, None, Some, refl, sym, ap, ◌∙◌, subst, inl, inr, arith}
use Rattle.std.proofs.lemmas.Bool.{false≢true}
use Rattle.ff_rec.specs.Lines.{Rec}
use Rattle.ff_rec.specs.declared.msg.Msg.TheVariants.{Item, Mark, Pick, Eos as EosMsg, Abort as AbortMsg}
use Rattle.ff_node.specs.Behaviour.{Behaviour}
use Rattle.ff_node.specs.Comb.{Part, comb_node}
use Rattle.ff_node.specs.Runs.{Message, Act, Took, Gave, Refused, Idle, Told, Handed}
use Rattle.ff_port.specs.declared.answers.End.{End}
use Rattle.ff_port.specs.declared.answers.End.TheVariants.{Eos, Abort, Memory}
use Rattle.ff_unit.specs.Closing.{any_live, spoiled}
use Rattle.ff_unit.specs.DealSentLaws.{place-out}
use Rattle.ff_unit.specs.Deals.{DealState, DealStep, DealGives, DealReady, MayBeRefused, AreOpenOuts, deal_takes, deals, deals_one}
use Rattle.ff_unit.specs.FlagLaws.{any_live-at, IsLive-within}
use Rattle.ff_unit.specs.Merges.{MergeState, MergeStep, merge_takes, merge_closes}
use Rattle.ff_unit.specs.Stage.{StageState}
use Rattle.ff_unit.specs.StageSteps.{StageStep, StageTakes, CutTakes, IsOpenFront}
use Rattle.ff_unit.specs.declared.dealing.Dealing.{Dealing}
use Rattle.ff_unit.specs.declared.dealing.Dealing.TheVariants.{InTurn, OnDemand, ByKey, GroupsInTurn, GroupsOnDemand}
use Rattle.ff_unit.specs.declared.mode.Mode.{Mode}
use Rattle.ff_unit.specs.declared.mode.Mode.TheVariants.{Live, Shut, Cut}
use Rattle.ff_order.specs.OMerges.{OMergeState, OMergeStep, omerge_takes, omerge_gets, omerge_ended, omerge_spoiled}
use Rattle.ff_steps.specs.NetUnits.{NetState, AsStage, AsDeal, AsMerge, AsOMerge, AsMaster, AsWorker, NetStep, net_does}
use Rattle.ff_steps.proofs.Heads.{cons≢nil}
use Rattle.ff_sweeps.specs.Cuts.{is_cut, is_cut_mode, is_memory, IsPlainUnit}

-- the acts of a core
abbrev pub IsCoreAct : Act → Type 0
IsCoreAct (Took k m) = Unit {0}
IsCoreAct (Gave k m) = Unit {0}
IsCoreAct Refused = Unit {0}
IsCoreAct Idle = Unit {0}
IsCoreAct Told = ⊥
IsCoreAct (Handed x) = ⊥

held_nothing : {A : Type 0} (held rest : List A) (m : A) → held ≡ [] → held ≡ m ∷ rest → ⊥
held_nothing held rest m none is = cons≢nil (sym is ∙ none)

fin_some : (fin : Option End) → IsSome fin → fin ≡ None → ⊥
fin_some fin some none = false≢true (subst IsSome none some)

module _ {N : Type 0} (b : Behaviour N) where
  -- one that has ended stays as it is
  stage_still : (u : StageState (List (Part N))) (act : Act) (v : StageState (List (Part N))) → u.held ≡ [] → IsSome u.fin → u.done ≡ true → IsCoreAct act → StageStep (comb_node b) [] u act v → v ≡ u
  stage_still u (Took k m) v none some done core s = absurd (fin_some u.fin some s.2)
  stage_still u (Gave k m) v none some done core s = absurd (held_nothing u.held v.held m none s.1)
  stage_still u Refused v none some done core s = absurd (subst IsOpenFront none s.0)
  stage_still u Idle v none some done core (inl e) = e
  stage_still u Idle v none some done core (inr s) = s.2 ∙ ap (λ d. record u { done = d }) (sym done)
  stage_still u Told v none some done core s = absurd core
  stage_still u (Handed x) v none some done core s = absurd core

  deal_still : (u : DealState) (act : Act) (v : DealState) → u.free ≡ None → u.held ≡ [] → u.live ≡ false → u.done ≡ true → IsCoreAct act → DealStep u act v → v ≡ u
  deal_still u (Took k m) v free none off done core s = absurd (false≢true (sym off ∙ s.3))
  deal_still u (Gave k m) v free none off done core s = absurd (held_nothing u.held v.held (k, m) none (subst (λ f. DealGives f u k m v) free s).0)
  deal_still u Refused v free none off done core s = absurd (subst (λ h. MayBeRefused None h) none (subst (λ f. MayBeRefused f u.held) free s.0))
  deal_still u Idle v free none off done core (inl e) = e
  deal_still u Idle v free none off done core (inr s) = s.3 ∙ ap (λ d. record u { done = d }) (sym done)
  deal_still u Told v free none off done core s = absurd core
  deal_still u (Handed x) v free none off done core s = absurd core

  merge_still : (u : MergeState) (act : Act) (v : MergeState) → u.held ≡ [] → any_live u.live ≡ false → u.done ≡ true → IsCoreAct act → MergeStep u act v → v ≡ u
  merge_still u (Took k m) v none off done core s = absurd (false≢true (sym off ∙ any_live-at u.live k s.1))
  merge_still u (Gave k m) v none off done core s = absurd (held_nothing u.held v.held m none s.1)
  merge_still u Refused v none off done core s = absurd (subst IsOpenFront none s.0)
  merge_still u Idle v none off done core (inl e) = e
  merge_still u Idle v none off done core (inr s) = s.2 ∙ ap (λ d. record u { done = d }) (sym done)
  merge_still u Told v none off done core s = absurd core
  merge_still u (Handed x) v none off done core s = absurd core

  omerge_still : (u : OMergeState) (act : Act) (v : OMergeState) → u.held ≡ [] → any_live u.live ≡ false → u.done ≡ true → IsCoreAct act → OMergeStep u act v → v ≡ u
  omerge_still u (Took k m) v none off done core s = absurd (false≢true (sym off ∙ any_live-at u.live k s.1))
  omerge_still u (Gave k m) v none off done core s = absurd (held_nothing u.held v.held m none s.1)
  omerge_still u Refused v none off done core s = absurd (subst IsOpenFront none s.0)
  omerge_still u Idle v none off done core (inl e) = e
  omerge_still u Idle v none off done core (inr s) = s.2 ∙ ap (λ d. record u { done = d }) (sym done)
  omerge_still u Told v none off done core s = absurd core
  omerge_still u (Handed x) v none off done core s = absurd core

  pub ended_still : (u : NetState N) (gots puts : List (List Message)) (act : Act) (v : NetState N) → IsPlainUnit u → (net_does b).Ready u gots puts → (net_does b).done u ≡ true → IsCoreAct act
      → NetStep b u act v → v ≡ u
  ended_still (AsStage u) gots puts act v plain ready done core s = s.1 ∙ ap AsStage (stage_still u act s.0 (ready.ended done).0 (ready.ended done).1 done core s.2)
  ended_still (AsDeal u) gots puts act v plain ready done core s = s.1 ∙ ap AsDeal (deal_still u act s.0 (ready.ended done).0 (ready.ended done).1 (ready.ended done).2 done core s.2)
  ended_still (AsMerge u) gots puts act v plain ready done core s = s.1 ∙ ap AsMerge (merge_still u act s.0 (ready.ended done).0 (ready.ended done).1 done core s.2)
  ended_still (AsOMerge u) gots puts act v plain ready done core s = s.1 ∙ ap AsOMerge (omerge_still u act s.0 (ready.ended done).0 (ready.ended done).1 done core s.2)
  ended_still (AsMaster u) gots puts act v plain ready done core s = absurd plain
  ended_still (AsWorker u) gots puts act v plain ready done core s = absurd plain

  -- one that was cut off stays so
  stage_takes_cut : (mode : Mode) (u : StageState (List (Part N))) (m : Message) (v : StageState (List (Part N))) → u.mode ≡ mode → is_cut_mode mode ≡ true → StageTakes (comb_node b) [] mode u m v → is_cut_mode v.mode ≡ true
  stage_takes_cut Live u m v is cut s = absurd (false≢true cut)
  stage_takes_cut Shut u m v is cut s = absurd (false≢true cut)
  stage_takes_cut Cut u m v is cut s = by m s ∙ ap is_cut_mode is
    where
      by : (m : Message) → CutTakes u m v → is_cut_mode v.mode ≡ is_cut_mode u.mode
      by (Item x) e = ap (λ w. is_cut_mode w.mode) e
      by Mark e = ap (λ w. is_cut_mode w.mode) e
      by (Pick w) e = ap (λ x. is_cut_mode x.mode) e
      by EosMsg e = ap (λ w. is_cut_mode w.mode) e
      by AbortMsg e = ap (λ w. is_cut_mode w.mode) e

  stage_cuts : (u : StageState (List (Part N))) (act : Act) (v : StageState (List (Part N))) → IsCoreAct act → StageStep (comb_node b) [] u act v → is_cut_mode u.mode ≡ true → is_cut_mode v.mode ≡ true
  stage_cuts u (Took k m) v core s cut = stage_takes_cut u.mode u m v refl cut s.3
  stage_cuts u (Gave k m) v core s cut = ap (λ w. is_cut_mode w.mode) s.2 ∙ cut
  stage_cuts u Refused v core s cut = ap (λ w. is_cut_mode w.mode) s.1
  stage_cuts u Idle v core (inl e) cut = ap (λ w. is_cut_mode w.mode) e ∙ cut
  stage_cuts u Idle v core (inr s) cut = ap (λ w. is_cut_mode w.mode) s.2 ∙ cut
  stage_cuts u Told v core s cut = absurd core
  stage_cuts u (Handed x) v core s cut = absurd core

  spoiled_memory : (end : End) → is_memory end ≡ true → is_memory (spoiled end) ≡ true
  spoiled_memory Eos cut = absurd (false≢true cut)
  spoiled_memory Abort cut = absurd (false≢true cut)
  spoiled_memory Memory cut = refl

  one_end : (way : Dealing) (u : DealState) (x : Rec) → (deals_one way u x).end ≡ u.end
  one_end InTurn u x = refl
  one_end OnDemand u x = refl
  one_end (ByKey f) u x = refl
  one_end GroupsInTurn u x = refl
  one_end GroupsOnDemand u x = refl

  deals_end : (end : End) (u : DealState) (x : Rec) → (deals end u x).end ≡ u.end
  deals_end Eos u x = one_end u.way u x
  deals_end Abort u x = one_end u.way u x
  deals_end Memory u x = refl

  deal_takes_cut : (u : DealState) (m : Message) → is_memory u.end ≡ true → is_memory (deal_takes u m).end ≡ true
  deal_takes_cut u (Item x) cut = ap is_memory (deals_end u.end u x) ∙ cut
  deal_takes_cut u Mark cut = cut
  deal_takes_cut u (Pick w) cut = cut
  deal_takes_cut u EosMsg cut = cut
  deal_takes_cut u AbortMsg cut = spoiled_memory u.end cut

  gives_end : (free : Option Rec) (u : DealState) (k : ℕ) (m : Message) (v : DealState) → DealGives free u k m v → v.end ≡ u.end
  gives_end None u k m v s = ap (λ w. w.end) s.1
  gives_end (Some x) u k m v s = ap (λ w. w.end) s.2

  deal_cuts : (u : DealState) (act : Act) (v : DealState) → IsCoreAct act → DealStep u act v → is_memory u.end ≡ true → is_memory v.end ≡ true
  deal_cuts u (Took k m) v core s cut = ap (λ w. is_memory w.end) s.4 ∙ deal_takes_cut u m cut
  deal_cuts u (Gave k m) v core s cut = ap is_memory (gives_end u.free u k m v s) ∙ cut
  deal_cuts u Refused v core s cut = ap (λ w. is_memory w.end) s.1
  deal_cuts u Idle v core (inl e) cut = ap (λ w. is_memory w.end) e ∙ cut
  deal_cuts u Idle v core (inr s) cut = ap (λ w. is_memory w.end) s.3 ∙ cut
  deal_cuts u Told v core s cut = absurd core
  deal_cuts u (Handed x) v core s cut = absurd core

  closes_end : (w : MergeState) → (merge_closes w).end ≡ w.end
  closes_end w = by (any_live w.live) refl
    where
      by : (any : Bool) → any_live w.live ≡ any → (merge_closes w).end ≡ w.end
      by true e = rw e refl
      by false e = rw e refl

  merge_takes_cut : (u : MergeState) (k : ℕ) (m : Message) → is_memory u.end ≡ true → is_memory (merge_takes u k m).end ≡ true
  merge_takes_cut u k (Item x) cut = cut
  merge_takes_cut u k Mark cut = cut
  merge_takes_cut u k (Pick w) cut = cut
  merge_takes_cut u k EosMsg cut = ap is_memory (closes_end (record u { live = slice_set u.live k false })) ∙ cut
  merge_takes_cut u k AbortMsg cut = spoiled_memory u.end cut

  merge_cuts : (u : MergeState) (act : Act) (v : MergeState) → IsCoreAct act → MergeStep u act v → is_memory u.end ≡ true → is_memory v.end ≡ true
  merge_cuts u (Took k m) v core s cut = ap (λ w. is_memory w.end) s.2 ∙ merge_takes_cut u k m cut
  merge_cuts u (Gave k m) v core s cut = ap (λ w. is_memory w.end) s.2 ∙ cut
  merge_cuts u Refused v core s cut = ap (λ w. is_memory w.end) s.1
  merge_cuts u Idle v core (inl e) cut = ap (λ w. is_memory w.end) e ∙ cut
  merge_cuts u Idle v core (inr s) cut = ap (λ w. is_memory w.end) s.2 ∙ cut
  merge_cuts u Told v core s cut = absurd core
  merge_cuts u (Handed x) v core s cut = absurd core

  omerge_takes_cut : (mode : Mode) (u : OMergeState) (k : ℕ) (m : Message) → u.mode ≡ mode → is_cut_mode mode ≡ true → is_cut_mode (omerge_takes u k m).mode ≡ true
  omerge_takes_cut Live u k m is cut = absurd (false≢true cut)
  omerge_takes_cut Shut u k m is cut = absurd (false≢true cut)
  omerge_takes_cut Cut u k (Item x) is cut = ap (λ mode. is_cut_mode (omerge_gets mode u (Item x)).mode) is ∙ ap is_cut_mode is
  omerge_takes_cut Cut u k Mark is cut = ap (λ mode. is_cut_mode (omerge_gets mode u Mark).mode) is ∙ ap is_cut_mode is
  omerge_takes_cut Cut u k (Pick w) is cut = ap (λ mode. is_cut_mode (omerge_gets mode u (Pick w)).mode) is ∙ ap is_cut_mode is
  omerge_takes_cut Cut u k EosMsg is cut = ap (λ mode. is_cut_mode (omerge_ended mode (record u { live = slice_set u.live k false })).mode) is ∙ ap is_cut_mode is
  omerge_takes_cut Cut u k AbortMsg is cut = ap (λ mode. is_cut_mode (omerge_spoiled mode (record u { live = slice_set u.live k false })).mode) is ∙ ap is_cut_mode is

  omerge_cuts : (u : OMergeState) (act : Act) (v : OMergeState) → IsCoreAct act → OMergeStep u act v → is_cut_mode u.mode ≡ true → is_cut_mode v.mode ≡ true
  omerge_cuts u (Took k m) v core s cut = ap (λ w. is_cut_mode w.mode) s.3 ∙ omerge_takes_cut u.mode u k m refl cut
  omerge_cuts u (Gave k m) v core s cut = ap (λ w. is_cut_mode w.mode) s.2 ∙ cut
  omerge_cuts u Refused v core s cut = ap (λ w. is_cut_mode w.mode) s.1
  omerge_cuts u Idle v core (inl e) cut = ap (λ w. is_cut_mode w.mode) e ∙ cut
  omerge_cuts u Idle v core (inr s) cut = ap (λ w. is_cut_mode w.mode) s.2 ∙ cut
  omerge_cuts u Told v core s cut = absurd core
  omerge_cuts u (Handed x) v core s cut = absurd core

  pub cut_stays : (u : NetState N) (act : Act) (v : NetState N) → IsPlainUnit u → IsCoreAct act → NetStep b u act v → is_cut u ≡ true → is_cut v ≡ true
  cut_stays (AsStage u) act v plain core s cut = ap is_cut s.1 ∙ stage_cuts u act s.0 core s.2 cut
  cut_stays (AsDeal u) act v plain core s cut = ap is_cut s.1 ∙ deal_cuts u act s.0 core s.2 cut
  cut_stays (AsMerge u) act v plain core s cut = ap is_cut s.1 ∙ merge_cuts u act s.0 core s.2 cut
  cut_stays (AsOMerge u) act v plain core s cut = ap is_cut s.1 ∙ omerge_cuts u act s.0 core s.2 cut
  cut_stays (AsMaster u) act v plain core s cut = absurd plain
  cut_stays (AsWorker u) act v plain core s cut = absurd plain

  -- it stays one that isn't of a wrap
  pub plain_stays : (u : NetState N) (act : Act) (v : NetState N) → IsPlainUnit u → NetStep b u act v → IsPlainUnit v
  plain_stays (AsStage u) act v plain s = subst IsPlainUnit (sym s.1) tt
  plain_stays (AsDeal u) act v plain s = subst IsPlainUnit (sym s.1) tt
  plain_stays (AsMerge u) act v plain s = subst IsPlainUnit (sym s.1) tt
  plain_stays (AsOMerge u) act v plain s = subst IsPlainUnit (sym s.1) tt
  plain_stays (AsMaster u) act v plain s = absurd plain
  plain_stays (AsWorker u) act v plain s = absurd plain

  -- a unit that does nothing stays as it is, or has ended
  pub idles : (u v : NetState N) → IsPlainUnit u → NetStep b u Idle v → (v ≡ u) ⊎ ((net_does b).done v ≡ true)
  idles (AsStage u) v plain s = elim s.2 [ inl e ↦ inl (s.1 ∙ ap AsStage e) | inr e ↦ inr (ap (net_does b).done s.1 ∙ ap (λ w. w.done) e.2) ]
  idles (AsDeal u) v plain s = elim s.2 [ inl e ↦ inl (s.1 ∙ ap AsDeal e) | inr e ↦ inr (ap (net_does b).done s.1 ∙ ap (λ w. w.done) e.3) ]
  idles (AsMerge u) v plain s = elim s.2 [ inl e ↦ inl (s.1 ∙ ap AsMerge e) | inr e ↦ inr (ap (net_does b).done s.1 ∙ ap (λ w. w.done) e.2) ]
  idles (AsOMerge u) v plain s = elim s.2 [ inl e ↦ inl (s.1 ∙ ap AsOMerge e) | inr e ↦ inr (ap (net_does b).done s.1 ∙ ap (λ w. w.done) e.2) ]
  idles (AsMaster u) v plain s = absurd plain
  idles (AsWorker u) v plain s = absurd plain

  -- it takes at one of its ins, and gives at one of its outs
  pub takes_within : (u : NetState N) (gots puts : List (List Message)) (k : ℕ) (m : Message) (v : NetState N) → IsPlainUnit u → (net_does b).Ready u gots puts → NetStep b u (Took k m) v → k < length gots
  takes_within (AsStage u) gots puts k m v plain ready s = omega (arith, s.2.0, ready.one_in)
  takes_within (AsDeal u) gots puts k m v plain ready s = omega (arith, s.2.0, ready.one_in)
  takes_within (AsMerge u) gots puts k m v plain ready s = omega (arith, IsLive-within u.live k s.2.1, ready.ins)
  takes_within (AsOMerge u) gots puts k m v plain ready s = omega (arith, IsLive-within u.live k s.2.1, ready.ins, ready.flags)
  takes_within (AsMaster u) gots puts k m v plain ready s = absurd plain
  takes_within (AsWorker u) gots puts k m v plain ready s = absurd plain

  deal_gives_within : (free : Option Rec) (u : DealState) (gots puts : List (List Message)) (k : ℕ) (m : Message) (v : DealState) → DealReady u gots puts → DealGives free u k m v → k < length puts
  deal_gives_within None u gots puts k m v ready s = (subst (AreOpenOuts puts) s.0 ready.open_held).0
  deal_gives_within (Some x) u gots puts k m v ready s = let out = place-out u.way u.places k s.1 in omega (arith, out, ready.outs)

  pub gives_within : (u : NetState N) (gots puts : List (List Message)) (k : ℕ) (m : Message) (v : NetState N) → IsPlainUnit u → (net_does b).Ready u gots puts → NetStep b u (Gave k m) v → k < length puts
  gives_within (AsStage u) gots puts k m v plain ready s = omega (arith, s.2.0, ready.one_out)
  gives_within (AsDeal u) gots puts k m v plain ready s = deal_gives_within u.free u gots puts k m s.0 ready s.2
  gives_within (AsMerge u) gots puts k m v plain ready s = omega (arith, s.2.0, ready.one_out)
  gives_within (AsOMerge u) gots puts k m v plain ready s = omega (arith, s.2.0, ready.one_out)
  gives_within (AsMaster u) gots puts k m v plain ready s = absurd plain
  gives_within (AsWorker u) gots puts k m v plain ready s = absurd plain
