-- Why a loop breaks off, and what the counts of its spawner tell then.
use Rattle.std.specs.Prelude.{ℕ, Result, Ok, Err}
use Rattle.ff_rec.specs.Counts.{more}
use Rattle.ff_spawn.specs.declared.fault.Denial.{Denial}
use Rattle.ff_spawn.specs.declared.fault.Denial.TheVariants.{Refused as DenialRefused, NoMemory as DenialNoMemory}
use Rattle.ff_tasks.specs.declared.fault.LoopFault.{LoopFault}
use Rattle.ff_tasks.specs.declared.fault.LoopFault.TheVariants.{Refused, NoMemory}

-- why it breaks off where a start was denied
abbrev pub denied : Denial → LoopFault
denied DenialRefused = Refused
denied DenialNoMemory = NoMemory

-- the spawner's count of refused starts after this answer: one more where a start was refused, and else the same
abbrev pub refused_count : {A : Type 0} → ℕ → Result A LoopFault → ℕ
refused_count n (Ok a) = n
refused_count n (Err Refused) = more n
refused_count n (Err NoMemory) = n
