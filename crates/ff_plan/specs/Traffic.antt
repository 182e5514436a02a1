-- How many messages a network passes on inside it.
use Rattle.std.specs.Prelude.{ℕ, ◌+◌, ◌*◌, List, length}
use Rattle.ff_rec.specs.Lines.{Rec}
use Rattle.ff_node.specs.Behaviour.{Behaviour}
use Rattle.ff_net.specs.Counts.{count, edges, units}
use Rattle.ff_net.specs.Meaning.{mean}
use Rattle.ff_net.specs.Tree.{Tree, Trees, Leaf, Pipe, Comb, Farm, OFarm, A2a, Wrap, none, more}

-- how many parts a pipe has; one, for a leaf or comb
abbrev pub parts_of : {N : Type 0} → Tree N → ℕ
parts_of (Pipe ts) = count ts
parts_of _ = 1

abbrev mutual
  -- records and Marks on the edges inside a network without wraps that was given these records
  pub passes : {N : Type 0} → Behaviour N → ℕ → Tree N → List Rec → ℕ
  passes b m (Leaf o) xs = 0
  passes b m (Pipe ts) xs = passes_through b m ts xs
  passes b m (Comb ts) xs = 0
  passes b m (Farm n s w) xs = passes b m w xs + length xs + length (mean b m w xs)
  passes b m (OFarm n s w) xs = passes b m w xs + length xs + length (mean b m w xs) + (parts_of w + 1) * length xs
  passes b m (A2a n l r k t) xs = length xs + 3 * length (mean b m l xs) + length (mean b m t (mean b m l xs))
  passes b m (Wrap n w p) xs = 0

  -- of the parts of a pipe, and the records between them
  pub passes_through : {N : Type 0} → Behaviour N → ℕ → Trees N → List Rec → ℕ
  passes_through b m none xs = 0
  passes_through b m (more t none) xs = passes b m t xs
  passes_through b m (more t (more u us)) xs = passes b m t xs + length (mean b m t xs) + passes_through b m (more u us) (mean b m t xs)

-- the messages on all edges of its plan, each with its Eos
abbrev pub messages : {N : Type 0} → Behaviour N → ℕ → Tree N → List Rec → ℕ
messages b m t xs = passes b m t xs + length xs + length (mean b m t xs) + edges t

-- how many sweeps are enough
abbrev pub budget : {N : Type 0} → Behaviour N → ℕ → Tree N → List Rec → ℕ
budget b m t xs = 2 * messages b m t xs + units t + 2
