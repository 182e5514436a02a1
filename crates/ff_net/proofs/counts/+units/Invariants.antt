use Rattle.std.proofs.Common.{◌≡◌, ◌+◌, ◌^◌, ◌<◌, drop}
use Rattle.ff_node.specs.Sends.{counted}
use Rattle.ff_net.specs.Tree.{trees_of}
use Rattle.ff_net.specs.Counts.{all_units}
use Rattle.ff_net.proofs.counts.+units.Given as goal

-- the sum so far and what is left are the whole
abbrev pub invariant-all_units-loop-part : goal.invariant-all_units-loop-part
invariant-all_units-loop-part g l = record {
  small : l.sum < 2 ^ 64;
  whole : counted (l.sum + all_units (trees_of (drop l.part-index l.parts))) ≡ counted (all_units (trees_of l.parts));
}
