-- Faults of a soak, and the count of refused starts.
use Rattle.std.specs.Prelude.{ℕ, Result, Ok, Err}
use Rattle.ff_rec.specs.Counts.{more}
use Rattle.ff_engine.specs.declared.fault.NetFault.{NetFault}
use Rattle.ff_engine.specs.declared.fault.NetFault.TheVariants as net
use Rattle.ff_soak.specs.declared.fault.SoakFault.{SoakFault}
use Rattle.ff_soak.specs.declared.fault.SoakFault.TheVariants.{Refused, NoMemory}

-- what a fault of the run is told as: whatever fails but a start fails for want of memory
abbrev pub cause_of : NetFault → SoakFault
cause_of net.Refused = Refused
cause_of (net.Run fault) = NoMemory

-- the spawner's count of refused starts after this answer: one more where a start was refused, and else the same
abbrev pub refused_count : {A : Type 0} → ℕ → Result A SoakFault → ℕ
refused_count n (Ok a) = n
refused_count n (Err Refused) = more n
refused_count n (Err NoMemory) = n
