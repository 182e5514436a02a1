-- Networks as plain trees, on which all that is said of networks stands.
use Rattle.std.specs.Prelude.{◌≡◌, ℕ, List, [], ◌∷◌, refl}
use Rattle.std.proofs.Common.{◌∙◌, ap}
use Rattle.ff_net.specs.declared.net.Net.{Net, Leaf as NetLeaf, Pipe as NetPipe, Pipe' as NetPipe', Comb as NetComb, Comb' as NetComb', Farm' as NetFarm', OFarm' as NetOFarm', A2a' as NetA2a', Wrap' as NetWrap', Row_of-Net, end_of-Net, more_of-Net, items-the_row-Net}
use Rattle.ff_net.specs.declared.net.Net.TheBlock.{hidden-the_row-Net-0, items_hidden-the_row-Net-0}
use Rattle.std.specs.declared.vec.Vec.{Vec}
use Rattle.std.specs.declared.alloc.Global.{Global}
use Rattle.ff_net.specs.declared.net.Sched.{Sched}
use Rattle.ff_net.specs.declared.net.Route.{Route}
use Rattle.ff_net.specs.declared.net.Test.{Test}

mutual
  -- a network: its form, the numbers of the form, and its parts
  pub data Tree (N : Type 0) : Type 0 where
    Leaf : N → Tree N
    Pipe : Trees N → Tree N
    Comb : Trees N → Tree N
    Farm : ℕ → Sched → Tree N → Tree N
    OFarm : ℕ → Sched → Tree N → Tree N
    A2a : ℕ → Tree N → Route → ℕ → Tree N → Tree N
    Wrap : ℕ → Tree N → Test → Tree N

  -- the parts of a pipe or comb
  pub data Trees (N : Type 0) : Type 0 where
    none : Trees N
    more : Tree N → Trees N → Trees N

abbrev mutual
  -- the tree that a network is
  pub tree_of : {N : Type 0} → Net N → Tree N
  tree_of (NetLeaf o) = Leaf o
  tree_of (NetPipe' shape row) = Pipe (row_trees row)
  tree_of (NetComb' shape row) = Comb (row_trees row)
  tree_of (NetFarm' n s p w) = Farm n s (tree_of w)
  tree_of (NetOFarm' n s p w) = OFarm n s (tree_of w)
  tree_of (NetA2a' n p l r m q t) = A2a n (tree_of l) r m (tree_of t)
  tree_of (NetWrap' n p w t) = Wrap n (tree_of w) t

  pub row_trees : {N : Type 0} {n : _} → Row_of-Net N n → Trees N
  row_trees end_of-Net = none
  row_trees (more_of-Net t row) = more (tree_of t) (row_trees row)

-- the trees of several networks
abbrev pub trees_of : {N : Type 0} → List (Net N) → Trees N
trees_of [] = none
trees_of (t ∷ ts) = more (tree_of t) (trees_of ts)

module _ {N : Type 0} where
  row_trees-items : (n : _) (row : Row_of-Net N n) → row_trees row ≡ trees_of (items-the_row-Net N n row)
  row_trees-items _ end_of-Net = refl
  row_trees-items _ (more_of-Net t row) = ap (more (tree_of t)) (row_trees-items _ row)

  -- a pipe is the pipe of its parts
  pub tree_of-Pipe : (v : Vec (Net N) Global) → tree_of (NetPipe v) ≡ Pipe (trees_of v.items)
  tree_of-Pipe v = ap Pipe (row_trees-items _ (hidden-the_row-Net-0 N v) ∙ ap trees_of (items_hidden-the_row-Net-0 N v))

  -- a comb is the comb of its parts
  pub tree_of-Comb : (v : Vec (Net N) Global) → tree_of (NetComb v) ≡ Comb (trees_of v.items)
  tree_of-Comb v = ap Comb (row_trees-items _ (hidden-the_row-Net-0 N v) ∙ ap trees_of (items_hidden-the_row-Net-0 N v))

-- what a network made of a list of parts is as a tree
pub ruleset tree_forms = (tree_of-Pipe, tree_of-Comb)
