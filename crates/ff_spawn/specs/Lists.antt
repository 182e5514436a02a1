-- Lists of jobs that run, each in a thread of its own.
use Rattle.std.specs.Prelude.{◌≡◌, ℕ, List, ◌++◌}
use Rattle.std.specs.List.{AllZip}
use Rattle.ff_spawn.specs.Counts.{worked_after}

-- the jobs as they were when they were started, and how many there is room for
pub record Crew (J : Type 0) : Type 0 where
  pub jobs : List J
  pub room : ℕ

-- the jobs that ran are the started ones, one by one; they came behind others, and the count of work rose by what they handled
pub record FinishesAll {J : Type 0} (done : J → J → Type 0) (amount : J → ℕ) (started before now : List J) (worked worked' : ℕ) : Type 0 where
  pub finished : List J
  pub behind : now ≡ before ++ finished
  pub each : AllZip done started finished
  pub work : worked' ≡ worked_after amount worked finished
