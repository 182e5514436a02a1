use Rattle.std.proofs.Common.{◌≡◌, ◌^◌, ◌<◌, max, drop}
use Rattle.ff_rec.specs.Counts.{counted}
use Rattle.ff_net.specs.Tree.{trees_of}
use Rattle.ff_net.specs.Counts.{deepest}
use Rattle.ff_net.proofs.depth.+depths.Given as goal

-- the deepest so far and what is left are the whole
abbrev pub invariant-deepest-loop-part : goal.invariant-deepest-loop-part
invariant-deepest-loop-part g l = record {
  small : l.most < 2 ^ 64;
  whole : counted (max l.most (deepest (trees_of (drop l.part-index l.parts)))) ≡ counted (deepest (trees_of l.parts));
}
