-- What comes back where no thread was started.
use Rattle.std.specs.Prelude.{◌≡◌, Result, Ok, Err}
use Rattle.ff_spawn.specs.declared.fault.StartFault.{StartFault}
use Rattle.ff_spawn.specs.declared.fault.StartFault.TheVariants.{Refused, NoMemory}

-- the fault hands this job back
abbrev pub HandsBack : {J : Type 0} → J → StartFault J → Type 0
HandsBack job (Refused back) = back ≡ job
HandsBack job (NoMemory back) = back ≡ job

-- the start was refused
abbrev pub IsRefusal : {A J : Type 0} → Result A (StartFault J) → Type 0
IsRefusal (Ok running) = ⊥
IsRefusal (Err (Refused job)) = Unit {0}
IsRefusal (Err (NoMemory job)) = ⊥
