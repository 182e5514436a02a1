use Rattle.std.proofs.Common.{◌≡◌, ◌-◌, ◌+◌, ◌*◌, ◌++◌}
use Rattle.ff_plan.specs.AlikeRows.{deal_rows}
use Rattle.ff_plan.proofs.units.add_row_deals.Given as goal

-- the deals so far and those that are left are all
abbrev pub invariant-loop-k : goal.invariant-loop-k
invariant-loop-k l = record {
  all : l.units.items ++ deal_rows l.kind l.at l.width (l.from + l.k) l.row (l.count - l.k)
      ≡ l.initial.units.items ++ deal_rows l.kind l.at l.width l.from l.first l.count;
  room : l.row + (l.count - l.k) * l.width ≡ l.first + l.count * l.width;
}
