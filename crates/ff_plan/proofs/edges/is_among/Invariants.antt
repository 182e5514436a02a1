use Rattle.std.proofs.Common.{◌≡◌, drop}
use Rattle.ff_plan.specs.Plans.{is_among}
use Rattle.ff_plan.proofs.edges.is_among.Given as goal

-- the edges that are left decide
abbrev pub invariant-loop-other : goal.invariant-loop-other
invariant-loop-other l = is_among l.edge l.edges ≡ is_among l.edge (drop l.other-index l.edges)
