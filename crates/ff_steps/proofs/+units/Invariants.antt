-- The units so far with those of the parts that are left are all, and these parts are good; and so many copies were added.
use Rattle.std.proofs.Common.{◌≡◌, ◌++◌, drop}
use Rattle.ff_net.specs.Good.{GoodParts}
use Rattle.ff_net.specs.Tree.{tree_of, trees_of}
use Rattle.ff_steps.specs.PlanUnits.{units_in, units_through, times}
use Rattle.ff_steps.proofs.+units.Given as goal

abbrev pub invariant-units::add_parts-loop-part : goal.invariant-units::add_parts-loop-part
invariant-units::add_parts-loop-part g l = record {
  good : GoodParts g.N.Node.does (trees_of (drop l.part-index l.parts));
  units : l.units.items ++ units_through g.N.Node.does l.making.limit l.making.keep (trees_of (drop l.part-index l.parts))
      ≡ l.initial.units.items ++ units_through g.N.Node.does l.making.limit l.making.keep (trees_of l.parts);
}

abbrev pub invariant-copies::add_copies-loop : goal.invariant-copies::add_copies-loop
invariant-copies::add_copies-loop g l = l.units.items ≡ l.initial.units.items ++ times l.counter (units_in g.N.Node.does l.making.limit l.making.keep (tree_of l.net))
