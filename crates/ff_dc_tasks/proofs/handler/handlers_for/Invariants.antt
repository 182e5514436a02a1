use Rattle.std.proofs.Common.{◌≡◌, length, All}
use Rattle.std.specs.Arc.{arc_value}
use Rattle.ff_dc_tasks.specs.Tasks.{answer_of}
use Rattle.ff_dc_tasks.proofs.handler.handlers_for.Given as goal

abbrev pub invariant-loop : goal.invariant-loop
invariant-loop g l =
    (length l.handlers.items ≡ l.counter)
    × All (λ h. answer_of (g.F.RuleFunctions.rule h.functions) (arc_value h.numbers) ≡ answer_of (g.F.RuleFunctions.rule l.functions) (arc_value l.shared)) l.handlers.items
