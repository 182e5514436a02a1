use Rattle.ff_prog.proofs.TaskCounts.{CountsTasks}
use Rattle.ff_prog.proofs.rules.first_past_most.Given as goal

-- no statement so far is a task too many
abbrev pub invariant-loop-k : goal.invariant-loop-k
invariant-loop-k l = CountsTasks l.statements l.k l.tasks
