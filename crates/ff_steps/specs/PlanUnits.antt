-- The units of a network's plan before their first steps.
use Rattle.std.specs.Prelude.{ℕ, zero, suc, ◌-◌, Bool, List, [], ◌∷◌, ◌++◌, map, length, replicate}
use Rattle.ff_net.specs.Tree.{Tree, Trees, Leaf, Pipe, Comb, Farm, OFarm, A2a, Wrap, none, more}
use Rattle.ff_net.specs.declared.net.Route.{Route}
use Rattle.ff_net.specs.declared.net.Route.TheVariants.{Rr, Od, By}
use Rattle.ff_net.specs.declared.net.Sched.{Sched}
use Rattle.ff_net.specs.declared.net.Sched.TheVariants.{Rr as DealInTurn, Od as DealOnDemand}
use Rattle.ff_node.specs.Behaviour.{Behaviour}
use Rattle.ff_node.specs.Comb.{comb_node}
use Rattle.ff_order.specs.OMerges.{opened_omerge}
use Rattle.ff_order.specs.declared.order.Order.{Order}
use Rattle.ff_order.specs.declared.order.Order.TheVariants.{InTurn as OrderInTurn, ByPick}
use Rattle.ff_plan.specs.declared.kind.UnitKind.{UnitKind}
use Rattle.ff_plan.specs.declared.kind.UnitKind.TheVariants.{Stage, DealRr, DealOd, DealBy, Merge, ODealRr, ODealOd, OMergeTurn, OMergePick, Master, Worker}
use Rattle.ff_plan.specs.Histories.{group_of}
use Rattle.ff_plan.specs.Laying.{units_of}
use Rattle.ff_plan.specs.Rows.{Laid}
use Rattle.ff_unit.specs.Deals.{opened_deal}
use Rattle.ff_unit.specs.Merges.{opened_merge}
use Rattle.ff_unit.specs.Stage.{opened_stage}
use Rattle.ff_unit.specs.Units.{Doing, Ran}
use Rattle.ff_unit.specs.declared.dealing.Dealing.{Dealing}
use Rattle.ff_unit.specs.declared.dealing.Dealing.TheVariants.{InTurn, OnDemand, ByKey, GroupsInTurn, GroupsOnDemand}
use Rattle.ff_steps.specs.NetUnits.{NetState, AsStage, AsDeal, AsMerge, AsOMerge, AsMaster, AsWorker}
use Rattle.ff_loop.specs.WrapMasters.{opened_wrap}

-- the stage of a leaf or a comb
abbrev pub stage_unit : {N : Type 0} → Behaviour N → Bool → Tree N → NetState N
stage_unit b keep t = AsStage (opened_stage (comb_node b) (group_of b t) keep)

-- the worker of a wrap that runs this leaf or comb
abbrev pub worker_unit : {N : Type 0} → Behaviour N → Bool → Tree N → NetState N
worker_unit b keep t = AsWorker (opened_stage (comb_node b) (group_of b t) keep)

-- the master of this form, which may have `m` tasks; no other form has one, so that a stage stands there
abbrev pub master_unit : {N : Type 0} → Behaviour N → ℕ → Bool → Tree N → NetState N
master_unit b m keep (Wrap n w p) = AsMaster (opened_wrap p m n)
master_unit b m keep t = stage_unit b keep t

-- a unit of this kind: `n` is how many ins it has, and `k` how many outs, and `m` how many tasks a wrap may have
abbrev pub opened_kind : {N : Type 0} → Behaviour N → ℕ → Bool → UnitKind → Tree N → ℕ → ℕ → NetState N
opened_kind b m keep Stage t n k = stage_unit b keep t
opened_kind b m keep DealRr t n k = AsDeal (opened_deal InTurn k)
opened_kind b m keep DealOd t n k = AsDeal (opened_deal OnDemand k)
opened_kind b m keep (DealBy f) t n k = AsDeal (opened_deal (ByKey f) k)
opened_kind b m keep Merge t n k = AsMerge (opened_merge n)
opened_kind b m keep ODealRr t n k = AsDeal (opened_deal GroupsInTurn k)
opened_kind b m keep ODealOd t n k = AsDeal (opened_deal GroupsOnDemand (k - 1))
opened_kind b m keep OMergeTurn t n k = AsOMerge (opened_omerge OrderInTurn n)
opened_kind b m keep OMergePick t n k = AsOMerge (opened_omerge ByPick (n - 1))
opened_kind b m keep Master t n k = master_unit b m keep t
opened_kind b m keep Worker t n k = worker_unit b keep t

-- a unit of a plan; a stage keeps its rejects where `keep` holds
abbrev pub opened_unit : {N : Type 0} → Behaviour N → ℕ → Bool → Laid N → NetState N
opened_unit b m keep l = opened_kind b m keep l.row.kind l.net (length l.row.ins) (length l.row.outs)

-- all of them
abbrev pub opened_units : {N : Type 0} → Behaviour N → ℕ → Bool → Tree N → List (NetState N)
opened_units b m keep t = map (opened_unit b m keep) (units_of t)

-- a unit made no step: it took nothing at its ins and put nothing at its outs
abbrev pub IsUnrun : {U : Type 0} → Doing U → U → Type 0
IsUnrun d u = Ran d u (replicate (d.ins u) []) (replicate (d.outs u) [])

-- how the deals and merges of farms choose, and the deals inside an all-to-all
abbrev pub dealing : Sched → Dealing
dealing DealInTurn = InTurn
dealing DealOnDemand = OnDemand

abbrev pub group_dealing : Sched → Dealing
group_dealing DealInTurn = GroupsInTurn
group_dealing DealOnDemand = GroupsOnDemand

abbrev pub group_order : Sched → Order
group_order DealInTurn = OrderInTurn
group_order DealOnDemand = ByPick

abbrev pub route_dealing : Route → Dealing
route_dealing Rr = InTurn
route_dealing Od = OnDemand
route_dealing (By f) = ByKey f

-- a list so many times
abbrev pub times : {A : Type 0} → ℕ → List A → List A
times zero xs = []
times (suc n) xs = xs ++ times n xs

-- units between a deal and a merge
abbrev pub between : {N : Type 0} → NetState N → List (NetState N) → NetState N → List (NetState N)
between deal units merge = deal ∷ (units ++ merge ∷ [])

abbrev mutual
  -- the units of a network along its tree, in the order in which they are laid
  pub units_in : {N : Type 0} → Behaviour N → ℕ → Bool → Tree N → List (NetState N)
  units_in b limit keep (Leaf o) = stage_unit b keep (Leaf o) ∷ []
  units_in b limit keep (Pipe ts) = units_through b limit keep ts
  units_in b limit keep (Comb ts) = stage_unit b keep (Comb ts) ∷ []
  units_in b limit keep (Farm n s w) = between (AsDeal (opened_deal (dealing s) n)) (times n (units_in b limit keep w)) (AsMerge (opened_merge n))
  units_in b limit keep (OFarm n s w) = between (AsDeal (opened_deal (group_dealing s) n)) (times n (units_in b limit keep w)) (AsOMerge (opened_omerge (group_order s) n))
  units_in b limit keep (A2a n l r m t) =
      AsDeal (opened_deal InTurn n)
      ∷ (times n (units_in b limit keep l)
      ++ (times n (AsDeal (opened_deal (route_dealing r) m) ∷ [])
      ++ (times m (AsMerge (opened_merge n) ∷ []) ++ (times m (units_in b limit keep t) ++ AsMerge (opened_merge m) ∷ []))))
  units_in b limit keep (Wrap n w p) = AsMaster (opened_wrap p limit n) ∷ times n (worker_unit b keep w ∷ [])

  pub units_through : {N : Type 0} → Behaviour N → ℕ → Bool → Trees N → List (NetState N)
  units_through b limit keep none = []
  units_through b limit keep (more t ts) = units_in b limit keep t ++ units_through b limit keep ts
