use Rattle.std.proofs.Common.{◌≡◌, drop}
use Rattle.ff_net.specs.At.{net_at}
use Rattle.ff_net.specs.Tree.{tree_of}
use Rattle.ff_net.proofs.net.Net.at.Given as goal

-- the way that is left goes on from the network that was reached
abbrev pub invariant-loop-k : goal.invariant-loop-k
invariant-loop-k g l = net_at (tree_of l.self) l.path ≡ net_at (tree_of l.net) (drop l.k l.path)
