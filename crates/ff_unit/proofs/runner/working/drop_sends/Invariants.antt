use Rattle.std.proofs.Common.{◌≡◌, [], length}
use Rattle.ff_unit.proofs.runner.working.drop_sends.Given as goal

-- nothing but the sends changed
abbrev pub invariant-loop : goal.invariant-loop
invariant-loop l = record l.sends { sends = [] } ≡ record l.initial.sends { sends = [] }

abbrev pub decreases-loop : goal.decreases-loop
decreases-loop l = length l.sends.sends
