-- The nodes of a network, along its tree, and a network before its first record.
use Rattle.std.specs.Prelude.{List, [], ◌∷◌, ◌++◌}
use Rattle.ff_node.specs.Behaviour.{Behaviour}
use Rattle.ff_net.specs.Tree.{Tree, Trees, Leaf, Pipe, Comb, Farm, OFarm, A2a, Wrap, none, more}

abbrev mutual
  -- the nodes one behind another: workers and sets of copies count as one node
  pub nodes_in : {N : Type 0} → Tree N → List N
  nodes_in (Leaf o) = o ∷ []
  nodes_in (Pipe ts) = nodes_through ts
  nodes_in (Comb ts) = nodes_through ts
  nodes_in (Farm n s w) = nodes_in w
  nodes_in (OFarm n s w) = nodes_in w
  nodes_in (A2a n l r m t) = nodes_in l ++ nodes_in t
  nodes_in (Wrap n w p) = nodes_in w

  pub nodes_through : {N : Type 0} → Trees N → List N
  nodes_through none = []
  nodes_through (more t ts) = nodes_in t ++ nodes_through ts

abbrev mutual
  -- the nodes of each leaf and each comb, one behind another; copies have none
  pub node_groups : {N : Type 0} → Tree N → List (List N)
  node_groups (Leaf o) = (o ∷ []) ∷ []
  node_groups (Pipe ts) = groups_through ts
  node_groups (Comb ts) = nodes_through ts ∷ []
  node_groups (Farm n s w) = []
  node_groups (OFarm n s w) = []
  node_groups (A2a n l r m t) = []
  node_groups (Wrap n w p) = []

  pub groups_through : {N : Type 0} → Trees N → List (List N)
  groups_through none = []
  groups_through (more t ts) = node_groups t ++ groups_through ts

abbrev mutual
  -- the same network, each of its nodes before its first record
  pub opened : {N : Type 0} → Behaviour N → Tree N → Tree N
  opened b (Leaf o) = Leaf (b.opening o)
  opened b (Pipe ts) = Pipe (all_opened b ts)
  opened b (Comb ts) = Comb (all_opened b ts)
  opened b (Farm n s w) = Farm n s (opened b w)
  opened b (OFarm n s w) = OFarm n s (opened b w)
  opened b (A2a n l r m t) = A2a n (opened b l) r m (opened b t)
  opened b (Wrap n w p) = Wrap n (opened b w) p

  pub all_opened : {N : Type 0} → Behaviour N → Trees N → Trees N
  all_opened b none = none
  all_opened b (more t ts) = more (opened b t) (all_opened b ts)
