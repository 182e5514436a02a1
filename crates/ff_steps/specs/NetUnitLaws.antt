-- A unit of a network keeps the laws of a unit, as its part does.
use Rattle.std.proofs.Common.{◌≡◌, ◌⊎◌, true, false, List, [], Some, IsSome, refl, sym, ap, ◌∙◌}
use Rattle.ff_node.specs.Behaviour.{Behaviour, KeepsKind}
use Rattle.ff_node.specs.Classes.{ClassLaw}
use Rattle.ff_node.specs.Comb.{Part, comb_node}
use Rattle.ff_node.specs.CombClassLaws.{comb_class_law}
use Rattle.ff_node.specs.CombKindLaws.{comb_keeps_kind}
use Rattle.ff_node.specs.Runs.{Message, Act, Leads, FitsWhole}
use Rattle.ff_loop.specs.WorkerLaws.{IsUnit-worker}
use Rattle.ff_loop.specs.WorkerUnit.{worker_does}
use Rattle.ff_order.specs.OMergeLaws.{IsUnit-omerge}
use Rattle.ff_order.specs.OMerges.{OMergeState, OMergeStep, omerge_does}
use Rattle.ff_port.specs.declared.answers.End.TheVariants.{Eos, Abort, Memory}
use Rattle.ff_unit.specs.DealLaws.{IsUnit-deal}
use Rattle.ff_unit.specs.Deals.{DealState, DealStep, deal_does}
use Rattle.ff_unit.specs.MergeLaws.{IsUnit-merge}
use Rattle.ff_unit.specs.Merges.{MergeState, MergeStep, merge_does}
use Rattle.ff_unit.specs.Stage.{StageState}
use Rattle.ff_unit.specs.StageLaws.{IsUnit-stage}
use Rattle.ff_unit.specs.StageUnit.{stage_does}
use Rattle.ff_unit.specs.Units.{IsUnit, Ran, HasRejects, TookAbort, LacksBy, taken_by, told_by, told_acts}
use Rattle.ff_loop.specs.WrapMasterLaws.{IsUnit-wrap, Ran-over}
use Rattle.ff_loop.specs.WrapMasters.{WrapState, WrapStep, wrap_does, is_past}
use Rattle.ff_steps.specs.NetUnits.{NetState, AsStage, AsDeal, AsMerge, AsOMerge, AsMaster, AsWorker, NetStep, net_does, opening_net, aborted_net}
use Rattle.ff_steps.specs.PartLaws.{HasRun-part, Leads-whole}

module _ {N : Type 0} (b : Behaviour N) where
  -- the run of a unit is the run of its part
  pub Ran-stage : (u : StageState (List (Part N))) (gots puts : List (List Message)) → Ran (net_does b) (AsStage u) gots puts → Ran (stage_does (comb_node b)) u gots puts
  Ran-stage u gots puts ran =
      let d = stage_does (comb_node b) in
      (ran.0, HasRun-part d.Steps (NetStep b) AsStage (λ x act v s. s) (λ x w e. cc e) (d.opening u) u (d.ins (d.opening u)) (d.outs (d.opening u)) gots puts ran.1)

  pub Ran-deal : (u : DealState) (gots puts : List (List Message)) → Ran (net_does b) (AsDeal u) gots puts → Ran deal_does u gots puts
  Ran-deal u gots puts ran =
      let d = deal_does in
      (ran.0, HasRun-part DealStep (NetStep b) AsDeal (λ x act v s. s) (λ x w e. cc e) (d.opening u) u (d.ins (d.opening u)) (d.outs (d.opening u)) gots puts ran.1)

  pub Ran-merge : (u : MergeState) (gots puts : List (List Message)) → Ran (net_does b) (AsMerge u) gots puts → Ran merge_does u gots puts
  Ran-merge u gots puts ran =
      let d = merge_does in
      (ran.0, HasRun-part MergeStep (NetStep b) AsMerge (λ x act v s. s) (λ x w e. cc e) (d.opening u) u (d.ins (d.opening u)) (d.outs (d.opening u)) gots puts ran.1)

  pub Ran-omerge : (u : OMergeState) (gots puts : List (List Message)) → Ran (net_does b) (AsOMerge u) gots puts → Ran omerge_does u gots puts
  Ran-omerge u gots puts ran =
      let d = omerge_does in
      (ran.0, HasRun-part OMergeStep (NetStep b) AsOMerge (λ x act v s. s) (λ x w e. cc e) (d.opening u) u (d.ins (d.opening u)) (d.outs (d.opening u)) gots puts ran.1)

  pub Ran-master : (u : WrapState) (gots puts : List (List Message)) → Ran (net_does b) (AsMaster u) gots puts → Ran wrap_does u gots puts
  Ran-master u gots puts ran =
      let d = wrap_does in
      (ran.0, HasRun-part WrapStep (NetStep b) AsMaster (λ x act v s. s) (λ x w e. cc e) (d.opening u) u (d.ins (d.opening u)) (d.outs (d.opening u)) gots puts ran.1)

  pub Ran-worker : (u : StageState (List (Part N))) (gots puts : List (List Message)) → Ran (net_does b) (AsWorker u) gots puts → Ran (worker_does (comb_node b)) u gots puts
  Ran-worker u gots puts ran =
      let d = worker_does (comb_node b) in
      (ran.0, HasRun-part d.Steps (NetStep b) AsWorker (λ x act v s. s) (λ x w e. cc e) (d.opening u) u (d.ins (d.opening u)) (d.outs (d.opening u)) gots puts ran.1)

  -- a master tells that it is over exactly where more tasks came than its limit allows
  pub Ran-over-master : (u : WrapState) (gots puts : List (List Message)) → Ran (net_does b) (AsMaster u) gots puts → u.over ≡ is_past u.round
  Ran-over-master u gots puts ran = Ran-over u gots puts (Ran-master u gots puts ran)

  module _ (stage : IsUnit (stage_does (comb_node b))) (deal : IsUnit deal_does) (merge : IsUnit merge_does) (omerge : IsUnit omerge_does)
      (master : IsUnit wrap_does) (worker : IsUnit (worker_does (comb_node b))) where
    opening-kept : (u : NetState N) (act : Act) (v : NetState N) → NetStep b u act v → opening_net b v ≡ opening_net b u
    opening-kept (AsStage u) act v s = ap (opening_net b) s.1 ∙ ap AsStage (stage.opening_kept u act s.0 s.2)
    opening-kept (AsDeal u) act v s = ap (opening_net b) s.1 ∙ ap AsDeal (deal.opening_kept u act s.0 s.2)
    opening-kept (AsMerge u) act v s = ap (opening_net b) s.1 ∙ ap AsMerge (merge.opening_kept u act s.0 s.2)
    opening-kept (AsOMerge u) act v s = ap (opening_net b) s.1 ∙ ap AsOMerge (omerge.opening_kept u act s.0 s.2)
    opening-kept (AsMaster u) act v s = ap (opening_net b) s.1 ∙ ap AsMaster (master.opening_kept u act s.0 s.2)
    opening-kept (AsWorker u) act v s = ap (opening_net b) s.1 ∙ ap AsWorker (worker.opening_kept u act s.0 s.2)

    taken-kept : (u : NetState N) (act : Act) (v : NetState N) → NetStep b u act v → (net_does b).taken v ≡ taken_by act ((net_does b).taken u)
    taken-kept (AsStage u) act v s = ap (net_does b).taken s.1 ∙ stage.taken_kept u act s.0 s.2
    taken-kept (AsDeal u) act v s = ap (net_does b).taken s.1 ∙ deal.taken_kept u act s.0 s.2
    taken-kept (AsMerge u) act v s = ap (net_does b).taken s.1 ∙ merge.taken_kept u act s.0 s.2
    taken-kept (AsOMerge u) act v s = ap (net_does b).taken s.1 ∙ omerge.taken_kept u act s.0 s.2
    taken-kept (AsMaster u) act v s = ap (net_does b).taken s.1 ∙ master.taken_kept u act s.0 s.2
    taken-kept (AsWorker u) act v s = ap (net_does b).taken s.1 ∙ worker.taken_kept u act s.0 s.2

    told-kept : (u : NetState N) (act : Act) (v : NetState N) → NetStep b u act v → (net_does b).told v ≡ told_by act ((net_does b).told u)
    told-kept (AsStage u) act v s = ap (net_does b).told s.1 ∙ stage.told_kept u act s.0 s.2
    told-kept (AsDeal u) act v s = ap (net_does b).told s.1 ∙ deal.told_kept u act s.0 s.2
    told-kept (AsMerge u) act v s = ap (net_does b).told s.1 ∙ merge.told_kept u act s.0 s.2
    told-kept (AsOMerge u) act v s = ap (net_does b).told s.1 ∙ omerge.told_kept u act s.0 s.2
    told-kept (AsMaster u) act v s = ap (net_does b).told s.1 ∙ master.told_kept u act s.0 s.2
    told-kept (AsWorker u) act v s = ap (net_does b).told s.1 ∙ worker.told_kept u act s.0 s.2

    opened : (u : NetState N) → ((net_does b).done (opening_net b u) ≡ false) × ((net_does b).told (opening_net b u) ≡ false) × ((net_does b).taken (opening_net b u) ≡ [])
    opened (AsStage u) = stage.opened u
    opened (AsDeal u) = deal.opened u
    opened (AsMerge u) = merge.opened u
    opened (AsOMerge u) = omerge.opened u
    opened (AsMaster u) = master.opened u
    opened (AsWorker u) = worker.opened u

    ready : (u : NetState N) (gots puts : List (List Message)) → Ran (net_does b) u gots puts → (net_does b).Ready u gots puts
    ready (AsStage u) gots puts ran = stage.ready u gots puts (Ran-stage u gots puts ran)
    ready (AsDeal u) gots puts ran = deal.ready u gots puts (Ran-deal u gots puts ran)
    ready (AsMerge u) gots puts ran = merge.ready u gots puts (Ran-merge u gots puts ran)
    ready (AsOMerge u) gots puts ran = omerge.ready u gots puts (Ran-omerge u gots puts ran)
    ready (AsMaster u) gots puts ran = master.ready u gots puts (Ran-master u gots puts ran)
    ready (AsWorker u) gots puts ran = worker.ready u gots puts (Ran-worker u gots puts ran)

    ends : (u : NetState N) (gots puts : List (List Message)) → Ran (net_does b) u gots puts → (net_does b).done u ≡ true → IsSome ((net_does b).fin u)
    ends (AsStage u) gots puts ran = stage.ends u gots puts (Ran-stage u gots puts ran)
    ends (AsDeal u) gots puts ran = deal.ends u gots puts (Ran-deal u gots puts ran)
    ends (AsMerge u) gots puts ran = merge.ends u gots puts (Ran-merge u gots puts ran)
    ends (AsOMerge u) gots puts ran = omerge.ends u gots puts (Ran-omerge u gots puts ran)
    ends (AsMaster u) gots puts ran = master.ends u gots puts (Ran-master u gots puts ran)
    ends (AsWorker u) gots puts ran = worker.ends u gots puts (Ran-worker u gots puts ran)

    begins : (u : NetState N) (gots puts : List (List Message)) → Ran (net_does b) u gots puts → (net_does b).Begins u gots puts
    begins (AsStage u) gots puts ran = stage.begins u gots puts (Ran-stage u gots puts ran)
    begins (AsDeal u) gots puts ran = deal.begins u gots puts (Ran-deal u gots puts ran)
    begins (AsMerge u) gots puts ran = merge.begins u gots puts (Ran-merge u gots puts ran)
    begins (AsOMerge u) gots puts ran = omerge.begins u gots puts (Ran-omerge u gots puts ran)
    begins (AsMaster u) gots puts ran = master.begins u gots puts (Ran-master u gots puts ran)
    begins (AsWorker u) gots puts ran = worker.begins u gots puts (Ran-worker u gots puts ran)

    whole : (u : NetState N) (gots puts : List (List Message)) → Ran (net_does b) u gots puts → (net_does b).done u ≡ true → (net_does b).fin u ≡ Some Eos
        → FitsWhole ((net_does b).Fits u) gots puts
    whole (AsStage u) gots puts ran = stage.whole u gots puts (Ran-stage u gots puts ran)
    whole (AsDeal u) gots puts ran = deal.whole u gots puts (Ran-deal u gots puts ran)
    whole (AsMerge u) gots puts ran = merge.whole u gots puts (Ran-merge u gots puts ran)
    whole (AsOMerge u) gots puts ran = omerge.whole u gots puts (Ran-omerge u gots puts ran)
    whole (AsMaster u) gots puts ran = master.whole u gots puts (Ran-master u gots puts ran)
    whole (AsWorker u) gots puts ran = worker.whole u gots puts (Ran-worker u gots puts ran)

    -- the fields of a part's rejects are those of the unit
    rejects-are : (u : NetState N) (gots puts : List (List Message)) → Ran (net_does b) u gots puts → (net_does b).done u ≡ true → (net_does b).fin u ≡ Some Eos
        → HasRejects (net_does b) u gots
    rejects-are (AsStage u) gots puts ran done fin =
        let r = stage.rejects_are u gots puts (Ran-stage u gots puts ran) done fin in record { number_is = r.number_is; kept_are = r.kept_are; none = r.none }
    rejects-are (AsDeal u) gots puts ran done fin =
        let r = deal.rejects_are u gots puts (Ran-deal u gots puts ran) done fin in record { number_is = r.number_is; kept_are = r.kept_are; none = r.none }
    rejects-are (AsMerge u) gots puts ran done fin =
        let r = merge.rejects_are u gots puts (Ran-merge u gots puts ran) done fin in record { number_is = r.number_is; kept_are = r.kept_are; none = r.none }
    rejects-are (AsOMerge u) gots puts ran done fin =
        let r = omerge.rejects_are u gots puts (Ran-omerge u gots puts ran) done fin in record { number_is = r.number_is; kept_are = r.kept_are; none = r.none }
    rejects-are (AsMaster u) gots puts ran done fin =
        let r = master.rejects_are u gots puts (Ran-master u gots puts ran) done fin in record { number_is = r.number_is; kept_are = r.kept_are; none = r.none }
    rejects-are (AsWorker u) gots puts ran done fin =
        let r = worker.rejects_are u gots puts (Ran-worker u gots puts ran) done fin in record { number_is = r.number_is; kept_are = r.kept_are; none = r.none }

    causes : (u : NetState N) (gots puts : List (List Message)) → Ran (net_does b) u gots puts → (net_does b).fin u ≡ Some Abort
        → ((net_does b).told u ≡ true) ⊎ TookAbort gots
    causes (AsStage u) gots puts ran = stage.causes u gots puts (Ran-stage u gots puts ran)
    causes (AsDeal u) gots puts ran = deal.causes u gots puts (Ran-deal u gots puts ran)
    causes (AsMerge u) gots puts ran = merge.causes u gots puts (Ran-merge u gots puts ran)
    causes (AsOMerge u) gots puts ran = omerge.causes u gots puts (Ran-omerge u gots puts ran)
    causes (AsMaster u) gots puts ran = master.causes u gots puts (Ran-master u gots puts ran)
    causes (AsWorker u) gots puts ran = worker.causes u gots puts (Ran-worker u gots puts ran)

    not-short : (u : NetState N) → ((net_does b).short (opening_net b u) ≡ false) × ((net_does b).short (aborted_net u) ≡ false)
    not-short (AsStage u) = stage.not_short u
    not-short (AsDeal u) = deal.not_short u
    not-short (AsMerge u) = merge.not_short u
    not-short (AsOMerge u) = omerge.not_short u
    not-short (AsMaster u) = master.not_short u
    not-short (AsWorker u) = worker.not_short u

    short-ends : (u : NetState N) → (net_does b).fin u ≡ Some Memory → (net_does b).short u ≡ true
    short-ends (AsStage u) = stage.short_ends u
    short-ends (AsDeal u) = deal.short_ends u
    short-ends (AsMerge u) = merge.short_ends u
    short-ends (AsOMerge u) = omerge.short_ends u
    short-ends (AsMaster u) = master.short_ends u
    short-ends (AsWorker u) = worker.short_ends u

    short-by : (u : NetState N) (act : Act) (v : NetState N) → NetStep b u act v → (net_does b).short v ≡ true → ((net_does b).short u ≡ true) ⊎ LacksBy ((net_does b).asks u) act
    short-by (AsStage u) act v s e = stage.short_by u act s.0 s.2 (sym (ap (net_does b).short s.1) ∙ e)
    short-by (AsDeal u) act v s e = deal.short_by u act s.0 s.2 (sym (ap (net_does b).short s.1) ∙ e)
    short-by (AsMerge u) act v s e = merge.short_by u act s.0 s.2 (sym (ap (net_does b).short s.1) ∙ e)
    short-by (AsOMerge u) act v s e = omerge.short_by u act s.0 s.2 (sym (ap (net_does b).short s.1) ∙ e)
    short-by (AsMaster u) act v s e = master.short_by u act s.0 s.2 (sym (ap (net_does b).short s.1) ∙ e)
    short-by (AsWorker u) act v s e = worker.short_by u act s.0 s.2 (sym (ap (net_does b).short s.1) ∙ e)

    asks-kept : (u : NetState N) (act : Act) (v : NetState N) → NetStep b u act v → (net_does b).asks v ≡ true → (net_does b).asks u ≡ true
    asks-kept (AsStage u) act v s e = stage.asks_kept u act s.0 s.2 (sym (ap (net_does b).asks s.1) ∙ e)
    asks-kept (AsDeal u) act v s e = deal.asks_kept u act s.0 s.2 (sym (ap (net_does b).asks s.1) ∙ e)
    asks-kept (AsMerge u) act v s e = merge.asks_kept u act s.0 s.2 (sym (ap (net_does b).asks s.1) ∙ e)
    asks-kept (AsOMerge u) act v s e = omerge.asks_kept u act s.0 s.2 (sym (ap (net_does b).asks s.1) ∙ e)
    asks-kept (AsMaster u) act v s e = master.asks_kept u act s.0 s.2 (sym (ap (net_does b).asks s.1) ∙ e)
    asks-kept (AsWorker u) act v s e = worker.asks_kept u act s.0 s.2 (sym (ap (net_does b).asks s.1) ∙ e)

    aborts-by : (u : NetState N) → u ≡ opening_net b u → Leads (NetStep b) u (told_acts ((net_does b).outs u)) (aborted_net u)
    aborts-by (AsStage u) fresh =
        Leads-whole (stage_does (comb_node b)).Steps (NetStep b) AsStage (λ x act w s. (w, refl, s)) u (told_acts 1) ((stage_does (comb_node b)).aborted u) (stage.aborts_by u (cc fresh))
    aborts-by (AsDeal u) fresh =
        Leads-whole DealStep (NetStep b) AsDeal (λ x act w s. (w, refl, s)) u (told_acts (deal_does.outs u)) (deal_does.aborted u) (deal.aborts_by u (cc fresh))
    aborts-by (AsMerge u) fresh =
        Leads-whole MergeStep (NetStep b) AsMerge (λ x act w s. (w, refl, s)) u (told_acts 1) (merge_does.aborted u) (merge.aborts_by u (cc fresh))
    aborts-by (AsOMerge u) fresh =
        Leads-whole OMergeStep (NetStep b) AsOMerge (λ x act w s. (w, refl, s)) u (told_acts 1) (omerge_does.aborted u) (omerge.aborts_by u (cc fresh))
    aborts-by (AsMaster u) fresh =
        Leads-whole WrapStep (NetStep b) AsMaster (λ x act w s. (w, refl, s)) u (told_acts (wrap_does.outs u)) (wrap_does.aborted u) (master.aborts_by u (cc fresh))
    aborts-by (AsWorker u) fresh =
        Leads-whole (worker_does (comb_node b)).Steps (NetStep b) AsWorker (λ x act w s. (w, refl, s)) u (told_acts 1) ((worker_does (comb_node b)).aborted u) (worker.aborts_by u (cc fresh))

    pub IsUnit-net : IsUnit (net_does b)
    IsUnit-net = record {
      opening_kept = opening-kept;
      taken_kept = taken-kept;
      told_kept = told-kept;
      opened = opened;
      ready = ready;
      ends = ends;
      begins = begins;
      whole = whole;
      rejects_are = rejects-are;
      causes = causes;
      not_short = not-short;
      short_ends = short-ends;
      short_by = short-by;
      asks_kept = asks-kept;
      aborts_by = aborts-by;
    }

  -- with nodes that keep the laws of nodes
  pub IsUnit-nodes : KeepsKind b → ((o : N) → ClassLaw b o (b.class o)) → IsUnit (net_does b)
  IsUnit-nodes kind law =
      IsUnit-net (IsUnit-stage (comb_node b) (comb_keeps_kind b kind) (comb_class_law b law)) IsUnit-deal IsUnit-merge IsUnit-omerge
      IsUnit-wrap (IsUnit-worker (comb_node b) (comb_keeps_kind b kind) (comb_class_law b law))
