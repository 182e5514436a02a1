use Rattle.std.proofs.Common.{◌-◌}
use Rattle.ff_dc.specs.Divisions.{part_count}
use Rattle.ff_dc_tasks.specs.Walks.{division_of}
use Rattle.ff_dc_tasks.proofs.OnWay.{IsOnWay}
use Rattle.ff_dc_tasks.proofs.walk.Walk.next_small.Given as goal

abbrev pub invariant-loop-left : goal.invariant-loop-left
invariant-loop-left g l = IsOnWay (g.F.RuleFunctions.rule l.functions) l.fn.self l.here l.self

abbrev pub decreases-loop-left : goal.decreases-loop-left
decreases-loop-left g l = part_count (division_of (g.F.RuleFunctions.rule l.functions) l.fn.self) - l.self.number
