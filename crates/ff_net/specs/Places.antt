-- The networks in a network: where each stands, and what stands above it and before it.
use Rattle.std.specs.Prelude.{ℕ, ◌+◌, true, false, ◌||◌, List, [], ◌∷◌, ◌++◌}
use Rattle.ff_net.specs.declared.spot.Spot.{Spot}
use Rattle.ff_net.specs.declared.spot.Role.{Role}
use Rattle.ff_net.specs.declared.spot.Role.TheVariants.{Whole, TopPart, PipePart, CombPart, FarmWorker, OFarmWorker, LeftSet, RightSet, WrapWorker}
use Rattle.ff_net.specs.Tree.{Tree, Trees, Leaf, Pipe, Comb, Farm, OFarm, A2a, Wrap, none, more}
use Rattle.ff_net.specs.Forms.{is_unordered}

-- a network in a network: what stands round it, and its place, the child numbers from the whole network down to it
pub record Seen (N : Type 0) : Type 0 where
  pub spot : Spot
  pub place : List ℕ
  pub net : Tree N

abbrev pub seen : {N : Type 0} → Spot → List ℕ → Tree N → Seen N
seen s place t = record { spot = s; place = place; net = t }

-- where the whole network stands
abbrev pub whole : Spot
whole = record { role = Whole; in_farm = false; behind = false }

-- the same spot in another role
abbrev pub as_role : Role → Spot → Spot
as_role r s = record s { role = r }

-- a part of the outermost pipe, or of another
abbrev pub part_role : Role → Role
part_role Whole = TopPart
part_role _ = PipePart

-- the worker of a farm
abbrev pub farm_worker : Spot → Spot
farm_worker s = record { role = FarmWorker; in_farm = true; behind = s.behind }

-- behind this part of a pipe
abbrev pub past : {N : Type 0} → Tree N → Spot → Spot
past t s = record s { behind = s.behind || is_unordered t }

-- child `k` of a network at this place
abbrev pub child : List ℕ → ℕ → List ℕ
child place k = place ++ k ∷ []

abbrev mutual
  -- a network and all networks in it, each before its parts, the parts from left to right. Children are counted from 1
  pub all_in : {N : Type 0} → Spot → List ℕ → Tree N → List (Seen N)
  all_in s at (Leaf o) = seen s at (Leaf o) ∷ []
  all_in s at (Pipe ts) = seen s at (Pipe ts) ∷ all_piped (as_role (part_role s.role) s) at 1 ts
  all_in s at (Comb ts) = seen s at (Comb ts) ∷ all_combed (as_role CombPart s) at 1 ts
  all_in s at (Farm n d w) = seen s at (Farm n d w) ∷ all_in (farm_worker s) (child at 1) w
  all_in s at (OFarm n d w) = seen s at (OFarm n d w) ∷ all_in (as_role OFarmWorker s) (child at 1) w
  all_in s at (A2a n l r m t) = seen s at (A2a n l r m t) ∷ (all_in (as_role LeftSet s) (child at 1) l ++ all_in (as_role (RightSet r) s) (child at 2) t)
  all_in s at (Wrap n w p) = seen s at (Wrap n w p) ∷ all_in (as_role WrapWorker s) (child at 1) w

  -- the parts of a pipe from child `k` on, each behind those before it
  pub all_piped : {N : Type 0} → Spot → List ℕ → ℕ → Trees N → List (Seen N)
  all_piped s at k none = []
  all_piped s at k (more t ts) = all_in s (child at k) t ++ all_piped (past t s) at (k + 1) ts

  -- the parts of a comb from child `k` on
  pub all_combed : {N : Type 0} → Spot → List ℕ → ℕ → Trees N → List (Seen N)
  all_combed s at k none = []
  all_combed s at k (more t ts) = all_in s (child at k) t ++ all_combed s at (k + 1) ts

-- the network and all networks in it
abbrev pub everything : {N : Type 0} → Tree N → List (Seen N)
everything t = all_in whole [] t
