-- The status of a call, and what stands beside it.
use Rattle.std.specs.Prelude.{◌≡◌, ℕ, Bool, true, false, Result, Ok, Err}
use Rattle.ff_call.specs.declared.fault.Fault.{Fault}
use Rattle.ff_call.specs.declared.fault.Fault.TheVariants as cause

-- the status of each fault
abbrev pub fault_status : Fault → ℕ
fault_status cause.Usage = 1
fault_status cause.NotBuilt = 2
fault_status cause.TooLong = 2
fault_status (cause.BadText at kind) = 2
fault_status (cause.BrokenRule broken) = 2
fault_status (cause.BadStatement statement) = 2
fault_status (cause.BrokenProgram rule statement) = 2
fault_status cause.NoSweep = 2
fault_status (cause.Tasks most) = 3
fault_status (cause.Line passed rejected) = 3
fault_status cause.Refused = 5
fault_status cause.NoMemory = 6
fault_status _ = 4

-- the status of a call
abbrev pub status_of : {A : Type 0} → Result A Fault → ℕ
status_of (Ok a) = 0
status_of (Err fault) = fault_status fault

-- how many records were rejected, where a fault tells it
abbrev pub rejected_by : Fault → ℕ
rejected_by (cause.Line passed rejected) = rejected
rejected_by (cause.Read rejected) = rejected
rejected_by (cause.Rejects name rejected) = rejected
rejected_by _ = 0

-- whether a fault comes only before the input is read
abbrev pub is_early : Fault → Bool
is_early (cause.Tasks most) = false
is_early (cause.Line passed rejected) = false
is_early (cause.Read rejected) = false
is_early cause.Write = false
is_early (cause.Rejects name rejected) = false
is_early cause.NoMemory = false
is_early _ = true

-- an answer is such a fault
abbrev pub IsEarly : {A : Type 0} → Result A Fault → Type 0
IsEarly (Ok a) = ⊥
IsEarly (Err fault) = is_early fault ≡ true
