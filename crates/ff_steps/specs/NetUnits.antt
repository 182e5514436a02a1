-- What is seen of a unit of a network, which is a stage, a deal, a merge, an ordered merge, or the master or a worker of a wrap, and what it
-- does: what that part does.
use Rattle.std.specs.Prelude.{◌≡◌, Bool, false, List, []}
use Rattle.std.specs.List.{list_any}
use Rattle.ff_loop.specs.Rounds.{log_of}
use Rattle.ff_loop.specs.WorkerUnit.{worker_does}
use Rattle.ff_net.specs.Logs.{Event}
use Rattle.ff_node.specs.Behaviour.{Behaviour}
use Rattle.ff_node.specs.Comb.{Part, comb_node}
use Rattle.ff_node.specs.Runs.{Act}
use Rattle.ff_order.specs.OMerges.{OMergeState, OMergeStep, omerge_does, opening_omerge, aborted_omerge}
use Rattle.ff_unit.specs.Deals.{DealState, DealStep, deal_does, opening_deal, aborted_deal}
use Rattle.ff_unit.specs.Merges.{MergeState, MergeStep, merge_does, opening_merge, aborted_merge}
use Rattle.ff_unit.specs.Stage.{StageState, opening_stage}
use Rattle.ff_unit.specs.StageUnit.{stage_does, aborted_stage}
use Rattle.ff_unit.specs.Units.{Doing}
use Rattle.ff_loop.specs.WrapMasters.{WrapState, WrapStep, wrap_does, opening_wrap, aborted_wrap}

-- a stage and a worker run their nodes as one
pub data NetState (N : Type 0) : Type 0 where
  AsStage : (u : StageState (List (Part N))) → NetState N
  AsDeal : (u : DealState) → NetState N
  AsMerge : (u : MergeState) → NetState N
  AsOMerge : (u : OMergeState) → NetState N
  AsMaster : (u : WrapState) → NetState N
  AsWorker : (u : StageState (List (Part N))) → NetState N

-- what is told of any unit, told of the part that this unit is
abbrev pub by_part {ℓ} : {N : Type 0} {A : Type ℓ} → Behaviour N → ((U : Type 0) → Doing U → U → A) → NetState N → A
by_part {N = N} b tell (AsStage u) = tell (StageState (List (Part N))) (stage_does (comb_node b)) u
by_part b tell (AsDeal u) = tell DealState deal_does u
by_part b tell (AsMerge u) = tell MergeState merge_does u
by_part b tell (AsOMerge u) = tell OMergeState omerge_does u
by_part b tell (AsMaster u) = tell WrapState wrap_does u
by_part {N = N} b tell (AsWorker u) = tell (StageState (List (Part N))) (worker_does (comb_node b)) u

-- the unit as it was before its first step, and one that was told to abort before it
abbrev pub opening_net : {N : Type 0} → Behaviour N → NetState N → NetState N
opening_net b (AsStage u) = AsStage (opening_stage (comb_node b) u)
opening_net b (AsDeal u) = AsDeal (opening_deal u)
opening_net b (AsMerge u) = AsMerge (opening_merge u)
opening_net b (AsOMerge u) = AsOMerge (opening_omerge u)
opening_net b (AsMaster u) = AsMaster (opening_wrap u)
opening_net b (AsWorker u) = AsWorker (opening_stage (comb_node b) u)

abbrev pub aborted_net : {N : Type 0} → NetState N → NetState N
aborted_net (AsStage u) = AsStage (aborted_stage u)
aborted_net (AsDeal u) = AsDeal (aborted_deal u)
aborted_net (AsMerge u) = AsMerge (aborted_merge u)
aborted_net (AsOMerge u) = AsOMerge (aborted_omerge u)
aborted_net (AsMaster u) = AsMaster (aborted_wrap u)
aborted_net (AsWorker u) = AsWorker (aborted_stage u)

-- one act of the part, which stays what it is
abbrev pub NetStep : {N : Type 0} → Behaviour N → NetState N → Act → NetState N → Type 0
NetStep {N = N} b (AsStage u) act v = (w : StageState (List (Part N))) × (v ≡ AsStage w) × (stage_does (comb_node b)).Steps u act w
NetStep b (AsDeal u) act v = (w : DealState) × (v ≡ AsDeal w) × DealStep u act w
NetStep b (AsMerge u) act v = (w : MergeState) × (v ≡ AsMerge w) × MergeStep u act w
NetStep b (AsOMerge u) act v = (w : OMergeState) × (v ≡ AsOMerge w) × OMergeStep u act w
NetStep b (AsMaster u) act v = (w : WrapState) × (v ≡ AsMaster w) × WrapStep u act w
NetStep {N = N} b (AsWorker u) act v = (w : StageState (List (Part N))) × (v ≡ AsWorker w) × (worker_does (comb_node b)).Steps u act w

-- what a unit of a network does
abbrev pub net_does : {N : Type 0} → Behaviour N → Doing (NetState N)
net_does b = record {
  Made = by_part b (λ U d u. d.Made u);
  opening = opening_net b;
  ins = by_part b (λ U d u. d.ins u);
  outs = by_part b (λ U d u. d.outs u);
  Rests = by_part b (λ U d u. d.Rests u);
  fin = by_part b (λ U d u. d.fin u);
  done = by_part b (λ U d u. d.done u);
  told = by_part b (λ U d u. d.told u);
  aborted = aborted_net;
  short = by_part b (λ U d u. d.short u);
  asks = by_part b (λ U d u. d.asks u);
  rejects = by_part b (λ U d u. d.rejects u);
  keeps = by_part b (λ U d u. d.keeps u);
  kept = by_part b (λ U d u. d.kept u);
  taken = by_part b (λ U d u. d.taken u);
  Steps = NetStep b;
  Ready = by_part b (λ U d u. d.Ready u);
  Stalls = by_part b (λ U d u. d.Stalls u);
  Fits = by_part b (λ U d u. d.Fits u);
  Begins = by_part b (λ U d u. d.Begins u);
  rejected = by_part b (λ U d u. d.rejected u);
}

-- whether it is the master of a wrap to which more tasks came than the limit allows, and whether some unit is
abbrev pub over_net : {N : Type 0} → NetState N → Bool
over_net (AsStage u) = false
over_net (AsDeal u) = false
over_net (AsMerge u) = false
over_net (AsOMerge u) = false
over_net (AsMaster u) = u.over
over_net (AsWorker u) = false

abbrev pub any_over : {N : Type 0} → List (NetState N) → Bool
any_over units = list_any over_net units

-- what it did as the master of a wrap; no other unit has a log
abbrev pub log_of_net : {N : Type 0} → NetState N → List Event
log_of_net (AsStage u) = []
log_of_net (AsDeal u) = []
log_of_net (AsMerge u) = []
log_of_net (AsOMerge u) = []
log_of_net (AsMaster u) = log_of u.round
log_of_net (AsWorker u) = []
