-- The units of a network before their first steps.
use Rattle.std.proofs.Common.{◌≡◌, ℕ, Bool, true, List, [], ◌∷◌, length, map, arith}
use Rattle.std.specs.List.{All, AllByRecursion}
use Rattle.std.proofs.lemmas.List.Elements.{All-nil, All-cons}
use Rattle.ff_node.specs.Behaviour.{Behaviour, KeepsKind}
use Rattle.ff_net.proofs.NodeGroups.{InRange-node_groups}
use Rattle.ff_net.specs.Good.{Good, InRange}
use Rattle.ff_net.specs.Nodes.{nodes_in}
use Rattle.ff_net.specs.RuleTests.{is_node}
use Rattle.ff_net.specs.Tree.{Tree, Leaf, Pipe, Comb, Farm, OFarm, A2a, Wrap}
use Rattle.ff_plan.specs.Laying.{units_of}
use Rattle.ff_plan.specs.Rows.{Laid}
use Rattle.ff_steps.specs.NetUnits.{net_does}
use Rattle.ff_steps.specs.PlanUnits.{opened_unit, opened_units, IsUnrun}
use Rattle.ff_steps.proofs.FreshUnits.{IsUnrun-kind}
use Rattle.ff_steps.proofs.Shapes.{HasShape, shapes-lay}

-- no unit made a step
module _ {N : Type 0} (b : Behaviour N) (kind : KeepsKind b) (m : ℕ) (keep : Bool) where
  unrun-laid : (ls : List (Laid N)) → AllByRecursion (HasShape b) ls → All (IsUnrun (net_does b)) (map (opened_unit b m keep) ls)
  unrun-laid [] shapes = All-nil (IsUnrun (net_does b))
  unrun-laid (l ∷ ls) shapes = All-cons (IsUnrun (net_does b)) (opened_unit b m keep l) (map (opened_unit b m keep) ls)
      (IsUnrun-kind b kind m keep l.row.kind l.net (length l.row.ins) (length l.row.outs) shapes.0) (unrun-laid ls shapes.1)

  pub unrun-opened_units : (t : Tree N) → Good b t → All (IsUnrun (net_does b)) (opened_units b m keep t)
  unrun-opened_units t good = unrun-laid (units_of t) (shapes-lay b t good [] 0 1 2)

-- a leaf or a comb has as many nodes as a unit takes
pub InRange-nodes_in : {N : Type 0} (b : Behaviour N) (t : Tree N) → Good b t → is_node t ≡ true → InRange (length (nodes_in t))
InRange-nodes_in b (Leaf o) good node = InRange-node_groups b (Leaf o) good 0 [] (omega arith)
InRange-nodes_in b (Comb ts) good node = InRange-node_groups b (Comb ts) good 0 [] (omega arith)
InRange-nodes_in b (Pipe ts) good node = absurd (cc)
InRange-nodes_in b (Farm n s w) good node = absurd (cc)
InRange-nodes_in b (OFarm n s w) good node = absurd (cc)
InRange-nodes_in b (A2a n l r m t) good node = absurd (cc)
InRange-nodes_in b (Wrap n w p) good node = absurd (cc)
