use Rattle.std.proofs.Common.{◌≡◌, drop}
use Rattle.ff_plan.specs.Plans.{party_at}
use Rattle.ff_plan.proofs.edges.reader_of.Given as goal

-- the units that are left decide
abbrev pub invariant-loop-i : goal.invariant-loop-i
invariant-loop-i l = party_at (λ row. row.ins) l.edge 0 l.units ≡ party_at (λ row. row.ins) l.edge l.i (drop l.i l.units)
