use Rattle.std.proofs.Common.{◌≡◌, ◌+◌, length}
use Rattle.ff_mean.specs.Rounds.{IsPlainState}
use Rattle.ff_mean.proofs.RoundSteps.{GoesRound}
use Rattle.ff_mean.proofs.rounds.run_rounds.Given as goal

-- how many levels were run, by a worker that is Plain throughout
abbrev pub invariant-levels : goal.invariant-levels
invariant-levels g l = record {
  plain : IsPlainState g.W.Node.does l.worker;
  kind : g.W.Node.does.opening l.worker ≡ g.W.Node.does.opening l.initial.worker;
  gone : GoesRound (g.W.Node.does.sends (g.W.Node.does.opening l.initial.worker)) (g.W.Node.does.rejects (g.W.Node.does.opening l.initial.worker)) l.test l.limit
      l.initial.tasks.next l.tasks l.initial.out l.out;
}

abbrev pub decreases-levels : goal.decreases-levels
decreases-levels g l = l.tasks.room + length l.tasks.next
