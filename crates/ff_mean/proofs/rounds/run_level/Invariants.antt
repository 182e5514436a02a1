use Rattle.std.proofs.Common.{◌≡◌, length}
use Rattle.ff_mean.specs.Rounds.{IsPlainState}
use Rattle.ff_mean.proofs.LevelSteps.{RunsLevelOn}
use Rattle.ff_mean.proofs.rounds.run_level.Given as goal

-- how far the level was run, by a worker that is Plain throughout
abbrev pub invariant-loop-r : goal.invariant-loop-r
invariant-loop-r g l = record {
  plain : IsPlainState g.W.Node.does l.worker;
  kind : g.W.Node.does.opening l.worker ≡ g.W.Node.does.opening l.initial.worker;
  ran : RunsLevelOn (g.W.Node.does.sends (g.W.Node.does.opening l.initial.worker)) (g.W.Node.does.rejects (g.W.Node.does.opening l.initial.worker)) l.test
      l.initial.level l.level l.initial.tasks l.tasks l.initial.out l.out;
}

abbrev pub decreases-loop-r : goal.decreases-loop-r
decreases-loop-r g l = length l.level
