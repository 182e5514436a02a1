-- What follows from the meaning of networks: of nodes one behind another, of `Same`, and of rounds that are not over.
use Rattle.std.specs.Prelude.{◌≡◌, ℕ, List, [], ◌∷◌, ◌++◌, refl}
use Rattle.std.proofs.Common.{ap}
use Rattle.ff_rec.specs.Lines.{Rec}
use Rattle.ff_node.specs.Behaviour.{Behaviour, node, pipeline, pipeline_rejected, node_rejected}
use Rattle.ff_net.specs.Tree.{Trees, Leaf, Pipe, Comb, none, more}
use Rattle.ff_net.specs.Meaning.{mean, mean_through, mean_rejected, mean_rejected_through, Fine, FineThrough}

-- nodes as the parts of a pipe or comb
abbrev pub leaves : {N : Type 0} → List N → Trees N
leaves [] = none
leaves (o ∷ os) = more (Leaf o) (leaves os)

module _ {N : Type 0} (b : Behaviour N) (m : ℕ) where
  mean_through-leaves : (os : List N) (xs : List Rec) → mean_through b m (leaves os) xs ≡ pipeline b os xs
  mean_through-leaves [] xs = refl
  mean_through-leaves (o ∷ os) xs = mean_through-leaves os (node b o xs)

  mean_rejected_through-leaves : (os : List N) (xs : List Rec) → mean_rejected_through b m (leaves os) xs ≡ pipeline_rejected b os xs
  mean_rejected_through-leaves [] xs = refl
  mean_rejected_through-leaves (o ∷ os) xs = ap (λ ys. node_rejected b o xs ++ ys) (mean_rejected_through-leaves os (node b o xs))

  fine_through-leaves : (os : List N) (xs : List Rec) → FineThrough b m (leaves os) xs
  fine_through-leaves [] xs = tt
  fine_through-leaves (o ∷ os) xs = (tt, fine_through-leaves os (node b o xs))

-- a pipe or a comb of nodes is these nodes one behind another, and never over a limit
pub record PipelineOfNodes {N : Type 0} (b : Behaviour N) : Type 0 where
  pub pipe : (m : ℕ) (os : List N) (xs : List Rec) → mean b m (Pipe (leaves os)) xs ≡ pipeline b os xs
  pub comb : (m : ℕ) (os : List N) (xs : List Rec) → mean b m (Comb (leaves os)) xs ≡ pipeline b os xs
  pub rejected_in_pipe : (m : ℕ) (os : List N) (xs : List Rec) → mean_rejected b m (Pipe (leaves os)) xs ≡ pipeline_rejected b os xs
  pub rejected_in_comb : (m : ℕ) (os : List N) (xs : List Rec) → mean_rejected b m (Comb (leaves os)) xs ≡ pipeline_rejected b os xs
  pub fine_pipe : (m : ℕ) (os : List N) (xs : List Rec) → Fine b m (Pipe (leaves os)) xs
  pub fine_comb : (m : ℕ) (os : List N) (xs : List Rec) → Fine b m (Comb (leaves os)) xs

pub pipeline_of_nodes : {N : Type 0} (b : Behaviour N) → PipelineOfNodes b
pipeline_of_nodes b = record {
  pipe = mean_through-leaves b;
  comb = mean_through-leaves b;
  rejected_in_pipe = mean_rejected_through-leaves b;
  rejected_in_comb = mean_rejected_through-leaves b;
  fine_pipe = fine_through-leaves b;
  fine_comb = fine_through-leaves b;
}
