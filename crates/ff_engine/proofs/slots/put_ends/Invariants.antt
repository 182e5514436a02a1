use Rattle.std.proofs.Common.{◌≡◌, drop, length}
use Rattle.std.specs.Vec.Iter.{into_iter_items}
use Rattle.ff_engine.specs.Slots.{placed}
use Rattle.ff_engine.proofs.slots.put_ends.Given as goal

-- the edges and the ends that are left decide the rest
abbrev pub invariant-loop-edge : goal.invariant-loop-edge
invariant-loop-edge g l = record {
  placed : placed (drop l.edge-index l.edges) (into_iter_items l.ends) l.slots.items ≡ placed l.edges l.fn.ends.items l.initial.slots.items;
  long : length l.slots.items ≡ length l.initial.slots.items;
}
