-- A network that several nodes in a row stand for.
use Rattle.std.specs.Prelude.{◌≡◌, ℕ, false, List}
use Rattle.std.specs.List.{flat_map}
use Rattle.ff_rec.specs.Lines.{Rec}
use Rattle.ff_rec.specs.Weights.{Same}
use Rattle.ff_node.specs.Behaviour.{Behaviour, pipeline, pipeline_rejected}
use Rattle.ff_node.specs.Comb.{Part, nodes_of}
use Rattle.ff_net.specs.Forms.{has_wrap}
use Rattle.ff_net.specs.Meaning.{mean, Fine, mean_rejected}
use Rattle.ff_net.specs.Tree.{Tree}

-- the network means what these nodes send one behind another, rejects what they reject, has no wrap, and so is never over a
-- limit
pub record ArePipelineOf {N S : Type 0} (does : Behaviour N) (net : Tree N) (b : Behaviour S) (os : List S) : Type 0 where
  pub no_wrap : has_wrap net ≡ false
  pub fine : (m : ℕ) (xs : List Rec) → Fine does m net xs
  pub sends : (m : ℕ) (xs : List Rec) → pipeline b os xs ≡ mean does m net xs
  pub rejects : (m : ℕ) (xs : List Rec) → Same (mean_rejected does m net xs) (pipeline_rejected b os xs)

-- the nodes of these combs, one comb behind another
abbrev pub all_nodes : {S : Type 0} → List (List (Part S)) → List S
all_nodes groups = flat_map nodes_of groups
