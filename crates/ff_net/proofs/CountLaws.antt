-- The number of parts of a pipe or comb.
use Rattle.std.proofs.Common.{◌≡◌, List, [], ◌∷◌, length, refl, arith}
use Rattle.ff_net.specs.declared.net.Net.{Net}
use Rattle.ff_net.specs.Tree.{trees_of, tree_of-Pipe, tree_of-Comb}
use Rattle.ff_net.specs.Counts.{count}

pub count-trees : {N : Type 0} (ts : List (Net N)) → count (trees_of ts) ≡ length ts
count-trees [] = refl
count-trees (t ∷ ts) = omega (arith, count-trees ts)

-- a network of parts as a tree, and how many parts it has
pub ruleset counted_parts = (tree_of-Pipe, tree_of-Comb, count-trees)
