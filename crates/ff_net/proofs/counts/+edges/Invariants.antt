use Rattle.std.proofs.Common.{◌≡◌, ◌+◌, ◌^◌, ◌<◌, drop}
use Rattle.ff_node.specs.Sends.{counted}
use Rattle.ff_net.specs.Tree.{trees_of}
use Rattle.ff_net.specs.Counts.{all_inner_edges}
use Rattle.ff_net.proofs.counts.+edges.Given as goal

-- the sum so far and what is left are the whole
abbrev pub invariant-all_inner_edges-loop-part : goal.invariant-all_inner_edges-loop-part
invariant-all_inner_edges-loop-part g l = record {
  small : l.sum < 2 ^ 64;
  whole : counted (l.sum + all_inner_edges (trees_of (drop l.part-index l.parts))) ≡ counted (all_inner_edges (trees_of l.parts));
}
