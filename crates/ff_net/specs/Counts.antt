-- How large a network is, and its plan.
use Rattle.std.specs.Prelude.{ℕ, ◌+◌, ◌*◌, ◌-◌, max}
use Rattle.ff_net.specs.declared.net.Sched.{Sched}
use Rattle.ff_net.specs.declared.net.Sched.TheVariants.{Rr, Od}
use Rattle.ff_net.specs.Tree.{Tree, Trees, Leaf, Pipe, Comb, Farm, OFarm, A2a, Wrap, none, more}

-- how many parts there are
abbrev pub count : {N : Type 0} → Trees N → ℕ
count none = 0
count (more t ts) = count ts + 1

abbrev mutual
  -- how many networks stand one in another, the whole one counted
  pub depth : {N : Type 0} → Tree N → ℕ
  depth (Leaf o) = 1
  depth (Pipe ts) = deepest ts + 1
  depth (Comb ts) = deepest ts + 1
  depth (Farm n s w) = depth w + 1
  depth (OFarm n s w) = depth w + 1
  depth (A2a n l r m t) = max (depth l) (depth t) + 1
  depth (Wrap n w p) = depth w + 1

  pub deepest : {N : Type 0} → Trees N → ℕ
  deepest none = 0
  deepest (more t ts) = max (depth t) (deepest ts)

abbrev mutual
  -- the units of a network's plan: a stage for a leaf or comb; a deal and a merge round the workers of a farm; for an
  -- all-to-all a deal and a merge on the outside, and a stage with a deal, or a merge with a stage, for each node of its
  -- sets; a master and its workers
  pub units : {N : Type 0} → Tree N → ℕ
  units (Leaf o) = 1
  units (Pipe ts) = all_units ts
  units (Comb ts) = 1
  units (Farm n s w) = n * units w + 2
  units (OFarm n s w) = n * units w + 2
  units (A2a n l r m t) = 2 * n + 2 * m + 2
  units (Wrap n w p) = n + 1

  pub all_units : {N : Type 0} → Trees N → ℕ
  all_units none = 0
  all_units (more t ts) = units t + all_units ts

-- the edge that tells an ordered farm's merge which worker was picked
abbrev pub pick_edges : Sched → ℕ
pick_edges Rr = 0
pick_edges Od = 1

abbrev mutual
  -- the edges inside a network's plan
  pub inner_edges : {N : Type 0} → Tree N → ℕ
  inner_edges (Leaf o) = 0
  inner_edges (Pipe ts) = (count ts - 1) + all_inner_edges ts
  inner_edges (Comb ts) = 0
  inner_edges (Farm n s w) = n * inner_edges w + 2 * n
  inner_edges (OFarm n s w) = n * inner_edges w + 2 * n + pick_edges s
  inner_edges (A2a n l r m t) = 2 * n + n * m + 2 * m
  inner_edges (Wrap n w p) = 2 * n

  pub all_inner_edges : {N : Type 0} → Trees N → ℕ
  all_inner_edges none = 0
  all_inner_edges (more t ts) = inner_edges t + all_inner_edges ts

-- the edges of a network's plan: those inside, its input and its output
abbrev pub edges : {N : Type 0} → Tree N → ℕ
edges t = inner_edges t + 2
