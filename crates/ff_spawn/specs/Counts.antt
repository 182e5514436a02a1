-- The three counts of a spawner, which have 64 bits and stand still at their last value.
use Rattle.std.specs.Prelude.{ℕ, ◌+◌, ◌≤◌, List, [], ◌∷◌, Result, Ok, Err}
pub use Rattle.ff_rec.specs.Counts.{more, counted, count_more, Rose}
use Rattle.ff_spawn.specs.declared.fault.StartFault.{StartFault}
use Rattle.ff_spawn.specs.declared.fault.StartFault.TheVariants.{Refused, NoMemory}
use Rattle.ff_spawn.specs.declared.fault.Denial.{Denial}
use Rattle.ff_spawn.specs.declared.fault.Denial.TheVariants.{Refused as DenialRefused, NoMemory as DenialNoMemory}

-- a count, so many more
abbrev pub more_by : ℕ → ℕ → ℕ
more_by n before = counted (before + n)

-- the count of work after these jobs were finished
abbrev pub worked_after : {J : Type 0} → (J → ℕ) → ℕ → List J → ℕ
worked_after amount n [] = n
worked_after amount n (job ∷ jobs) = worked_after amount (more_by (amount job) n) jobs

-- a count rose by at least so many, or stands at its last value
abbrev pub RoseBy : ℕ → ℕ → ℕ → Type 0
RoseBy n before now = more_by n before ≤ now

-- the count of starts after a start with this answer
abbrev pub starts_after : {A J : Type 0} → ℕ → Result A (StartFault J) → ℕ
starts_after n (Ok running) = more n
starts_after n (Err fault) = n

-- the count of refusals after a start with this answer
abbrev pub refused_after : {A J : Type 0} → ℕ → Result A (StartFault J) → ℕ
refused_after n (Ok running) = n
refused_after n (Err (Refused job)) = more n
refused_after n (Err (NoMemory job)) = n

-- the count of refusals after the starts of a list, which end at the first that is denied
abbrev pub denied_after : {A : Type 0} → ℕ → Result A Denial → ℕ
denied_after n (Ok a) = n
denied_after n (Err DenialRefused) = more n
denied_after n (Err DenialNoMemory) = n
