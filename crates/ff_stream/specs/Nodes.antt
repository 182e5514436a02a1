-- A network that one node stands for.
use Rattle.std.specs.Prelude.{◌≡◌, ℕ, false, List}
use Rattle.ff_rec.specs.Lines.{Rec}
use Rattle.ff_rec.specs.Weights.{Same}
use Rattle.ff_node.specs.Behaviour.{Behaviour, node, node_rejected}
use Rattle.ff_net.specs.Forms.{has_wrap}
use Rattle.ff_net.specs.Meaning.{mean, Fine, mean_rejected}
use Rattle.ff_net.specs.Tree.{Tree}

-- the network means what this node sends, rejects what it rejects, has no wrap, and so is never over a limit
pub record IsNodeOf {N S : Type 0} (does : Behaviour N) (net : Tree N) (b : Behaviour S) (o : S) : Type 0 where
  pub no_wrap : has_wrap net ≡ false
  pub fine : (m : ℕ) (xs : List Rec) → Fine does m net xs
  pub sends : (m : ℕ) (xs : List Rec) → node b o xs ≡ mean does m net xs
  pub rejects : (m : ℕ) (xs : List Rec) → Same (mean_rejected does m net xs) (node_rejected b o xs)
