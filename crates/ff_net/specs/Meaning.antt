-- What a network means: what it gives for a list of records, on one thread and without units or channels.
use Rattle.std.specs.Prelude.{◌≡◌, ℕ, suc, Bool, true, false, List, [], ◌++◌, length, ◌⊎◌}
use Rattle.ff_rec.specs.Lines.{Rec, text}
use Rattle.ff_rec.specs.Weights.{Same}
use Rattle.ff_node.specs.Behaviour.{Behaviour, node, node_rejected}
use Rattle.ff_node.specs.Sends.{counted}
use Rattle.ff_net.specs.Tree.{Tree, Trees, Leaf, Pipe, Comb, Farm, OFarm, A2a, Wrap, none, more}
use Rattle.ff_net.specs.Forms.{is_ordered}
use Rattle.ff_net.specs.Levels.{IsOver, results, over_levels}

-- `b` is what the nodes do, and `m` is how many tasks a wrap may have
abbrev mutual
  -- what a network gives for these records, as far as no wrap is over its limit
  pub mean : {N : Type 0} → Behaviour N → ℕ → Tree N → List Rec → List Rec
  mean b m (Leaf o) xs = node b o xs
  mean b m (Pipe ts) xs = mean_through b m ts xs
  mean b m (Comb ts) xs = mean_through b m ts xs
  mean b m (Farm n s w) xs = mean b m w xs
  mean b m (OFarm n s w) xs = mean b m w xs
  mean b m (A2a n l r k t) xs = mean b m t (mean b m l xs)
  mean b m (Wrap n w p) xs = results (mean b m w) p m xs

  -- each part gets what the one before it gives
  pub mean_through : {N : Type 0} → Behaviour N → ℕ → Trees N → List Rec → List Rec
  mean_through b m none xs = xs
  mean_through b m (more t ts) xs = mean_through b m ts (mean b m t xs)

abbrev mutual
  -- no wrap is over its limit along the way. A wrap's worker is a node or a comb, so no wrap stands in it
  pub Fine : {N : Type 0} → Behaviour N → ℕ → Tree N → List Rec → Type 0
  Fine b m (Leaf o) xs = Unit {0}
  Fine b m (Pipe ts) xs = FineThrough b m ts xs
  Fine b m (Comb ts) xs = FineThrough b m ts xs
  Fine b m (Farm n s w) xs = Fine b m w xs
  Fine b m (OFarm n s w) xs = Fine b m w xs
  Fine b m (A2a n l r k t) xs = Fine b m l xs × Fine b m t (mean b m l xs)
  Fine b m (Wrap n w p) xs = ¬ IsOver (mean b m w) p m xs

  pub FineThrough : {N : Type 0} → Behaviour N → ℕ → Trees N → List Rec → Type 0
  FineThrough b m none xs = Unit {0}
  FineThrough b m (more t ts) xs = Fine b m t xs × FineThrough b m ts (mean b m t xs)

abbrev mutual
  -- what all nodes reject along the way; in a wrap on all levels
  pub mean_rejected : {N : Type 0} → Behaviour N → ℕ → Tree N → List Rec → List Rec
  mean_rejected b m (Leaf o) xs = node_rejected b o xs
  mean_rejected b m (Pipe ts) xs = mean_rejected_through b m ts xs
  mean_rejected b m (Comb ts) xs = mean_rejected_through b m ts xs
  mean_rejected b m (Farm n s w) xs = mean_rejected b m w xs
  mean_rejected b m (OFarm n s w) xs = mean_rejected b m w xs
  mean_rejected b m (A2a n l r k t) xs = mean_rejected b m l xs ++ mean_rejected b m t (mean b m l xs)
  mean_rejected b m (Wrap n w p) xs = over_levels (mean_rejected b m w) (mean b m w) p (suc m) xs

  pub mean_rejected_through : {N : Type 0} → Behaviour N → ℕ → Trees N → List Rec → List Rec
  mean_rejected_through b m none xs = []
  mean_rejected_through b m (more t ts) xs = mean_rejected b m t xs ++ mean_rejected_through b m ts (mean b m t xs)

-- how many records all nodes reject, as far as a count of 64 bits tells
abbrev pub mean_rejected_count : {N : Type 0} → Behaviour N → ℕ → Tree N → List Rec → ℕ
mean_rejected_count b m t xs = counted (length (mean_rejected b m t xs))

-- the same records, in the same order where that is asked for
abbrev pub SameInOrder : Bool → List Rec → List Rec → Type 0
SameInOrder true xs ys = ys ≡ xs
SameInOrder false xs ys = Same xs ys

-- what a run of a network may answer: no wrap is over its limit, and the answer is what the network means, in that order
-- where the network is ordered
pub record Answers {N : Type 0} (b : Behaviour N) (m : ℕ) (t : Tree N) (xs ys : List Rec) : Type 0 where
  pub fine : Fine b m t xs
  pub same : SameInOrder (is_ordered t) (mean b m t xs) ys

-- what a run that was cut short may have written: nothing, or a prefix of the text of an answer
abbrev pub Begins : {N : Type 0} → Behaviour N → ℕ → Tree N → List Rec → List ℕ → Type 0
Begins b m t xs bytes = (bytes ≡ []) ⊎ ((ys : List Rec) × (more : List ℕ) × Answers b m t xs ys × (bytes ++ more ≡ text ys))
