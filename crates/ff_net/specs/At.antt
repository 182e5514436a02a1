-- The network that stands at a place in a network.
use Rattle.std.specs.Prelude.{ℕ, ◌+◌, ◌==◌, if◌then◌else◌, List, [], ◌∷◌, Option, None, Some}
use Rattle.std.specs.Option.{option_and_then}
use Rattle.ff_net.specs.Tree.{Tree, Trees, Leaf, Pipe, Comb, Farm, OFarm, A2a, Wrap, none, more}

-- child `k` among these parts, the first of which is child `first`
abbrev pub part_of : {N : Type 0} → ℕ → Trees N → ℕ → Option (Tree N)
part_of first none k = None
part_of first (more t ts) k = if first == k then Some t else part_of (first + 1) ts k

-- child 1, which is the only one
abbrev pub worker_of : {N : Type 0} → Tree N → ℕ → Option (Tree N)
worker_of w k = if k == 1 then Some w else None

-- child `k` of a network. Children are counted from 1
abbrev pub child_of : {N : Type 0} → Tree N → ℕ → Option (Tree N)
child_of (Leaf o) k = None
child_of (Pipe ts) k = part_of 1 ts k
child_of (Comb ts) k = part_of 1 ts k
child_of (Farm n s w) k = worker_of w k
child_of (OFarm n s w) k = worker_of w k
child_of (A2a n l r m t) k = if k == 1 then Some l else (if k == 2 then Some t else None)
child_of (Wrap n w p) k = worker_of w k

-- the network at this place
abbrev pub net_at : {N : Type 0} → Tree N → List ℕ → Option (Tree N)
net_at t [] = Some t
net_at t (k ∷ place) = option_and_then (λ u. net_at u place) (child_of t k)
