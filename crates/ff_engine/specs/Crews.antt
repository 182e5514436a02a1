-- The jobs of a line, while they run and when they have ended.
use Rattle.std.specs.Prelude.{◌≡◌, ℕ, List, map}
use Rattle.std.specs.List.{AllZip}
use Rattle.ff_node.specs.Runs.{Message}
use Rattle.ff_spawn.specs.Counts.{worked_after}
use Rattle.ff_unit.specs.Units.{Doing}
use Rattle.ff_engine.specs.Jobs.{JobState, handled, HasWorked}
use Rattle.ff_engine.specs.Lines.{IsSettled}

-- these jobs were started, and are joined: each has ended, and took the first of what the one before it put
pub record IsJoined {U : Type 0} (d : Doing U) (before : List Message) (started : List (JobState U)) (units : List U) (taken : List Message)
    (worked worked' : ℕ) : Type 0 where
  pub finished : List (JobState U)
  pub each : AllZip (HasWorked d) started finished
  pub units_are : units ≡ map (λ job. job.unit) finished
  pub settled : IsSettled before finished taken
  pub work : worked' ≡ worked_after handled worked finished
