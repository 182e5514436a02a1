-- How a run by threads ends.
use Rattle.std.specs.Prelude.{◌≡◌, ℕ, Result, Ok, Err}
use Rattle.ff_rec.specs.Counts.{more}
use Rattle.ff_stream.specs.Endings.{HasRun, Ran, CountsInput, output_count}
use Rattle.ff_stream.specs.Jobs.{Job}
use Rattle.ff_stream.specs.Streams.{Streams}
use Rattle.ff_stream.specs.declared.ending.Ending.{Ending}
use Rattle.ff_engine.specs.declared.fault.NetFault.{NetFault}
use Rattle.ff_engine.specs.declared.fault.NetFault.TheVariants.{Refused, Run}

-- nothing was read and nothing written
pub record IsUntouched (s : Streams) : Type 0 where
  pub left : s.left_now ≡ s.left
  pub faults : s.faults_now ≡ s.faults
  pub taken : s.taken_now ≡ s.taken

-- what was read and written at each answer
abbrev pub NetRan : {N : Type 0} → Job N → Streams → Result Ending NetFault → Type 0
NetRan j s (Ok ending) = HasRun j s ending
NetRan j s (Err Refused) = IsUntouched s
NetRan j s (Err (Run fault)) = Ran j s (Err fault)

-- the spawner's count of refused starts after this answer: one more where a start was refused, and else the same
abbrev pub refused_count : {A : Type 0} → ℕ → Result A NetFault → ℕ
refused_count n (Ok a) = n
refused_count n (Err Refused) = more n
refused_count n (Err (Run fault)) = n

-- how the count of the input's faults went
abbrev pub CountsNetInput : ℕ → ℕ → Result Ending NetFault → Type 0
CountsNetInput before now (Ok ending) = CountsInput before now (Ok ending)
CountsNetInput before now (Err Refused) = now ≡ before
CountsNetInput before now (Err (Run fault)) = CountsInput before now (Err fault)

-- the count of the output's faults after this answer
abbrev pub net_output_count : {A : Type 0} → ℕ → Result A NetFault → ℕ
net_output_count n (Ok a) = n
net_output_count n (Err Refused) = n
net_output_count {A} n (Err (Run fault)) = output_count {A = A} n (Err fault)
