use Rattle.std.proofs.Common.{◌≡◌, ◌++◌, drop, map, Some}
use Rattle.ff_engine.specs.Slots.{Holds, taken_out, emptied}
use Rattle.ff_engine.proofs.slots.take_ends.Given as goal

-- the edges that are left decide the rest
abbrev pub invariant-loop-edge : goal.invariant-loop-edge
invariant-loop-edge g l = record {
  holds : Holds (drop l.edge-index l.edges) l.slots.items;
  ends : map (λ x. Some x) l.ends.items ++ taken_out (drop l.edge-index l.edges) l.slots.items ≡ taken_out l.edges l.initial.slots.items;
  left : emptied (drop l.edge-index l.edges) l.slots.items ≡ emptied l.edges l.initial.slots.items;
}
