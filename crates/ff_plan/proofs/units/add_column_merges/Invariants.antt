use Rattle.std.proofs.Common.{◌≡◌, ◌-◌, ◌+◌, ◌++◌}
use Rattle.ff_plan.specs.AlikeRows.{merge_rows}
use Rattle.ff_plan.proofs.units.add_column_merges.Given as goal

-- the merges so far and those that are left are all
abbrev pub invariant-loop-k : goal.invariant-loop-k
invariant-loop-k l =
    l.units.items ++ merge_rows l.at l.rows l.width (l.first + l.k) (l.to + l.k) (l.width - l.k)
    ≡ l.initial.units.items ++ merge_rows l.at l.rows l.width l.first l.to l.width
