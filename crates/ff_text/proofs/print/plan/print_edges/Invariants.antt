use Rattle.std.proofs.Common.{◌≡◌, ◌++◌, drop}
use Rattle.ff_text.specs.PlanText.{printed_edges}
use Rattle.ff_text.proofs.print.plan.print_edges.Given as goal

-- what is printed, and what is left
abbrev pub invariant-loop-edge : goal.invariant-loop-edge
invariant-loop-edge l = l.initial.into.items ++ printed_edges l.edges ≡ l.into.items ++ printed_edges (drop l.edge-index l.edges)
