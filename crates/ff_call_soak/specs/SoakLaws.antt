-- How a soak ends where no count rose.
use Rattle.std.proofs.Common.{◌≡◌, ◌⊎◌, ℕ, refl, inl, inr}
use Rattle.std.specs.Prelude.{Result, Ok, Err}
use Rattle.ff_call.specs.Counts.{Counts}
use Rattle.ff_call.specs.GivenLaws.{Rose-more}
use Rattle.ff_call.specs.Outside.{Outside, IsQuiet}
use Rattle.ff_call.specs.Statuses.{status_of}
use Rattle.ff_call.specs.declared.fault.Fault.{Fault}
use Rattle.ff_call.specs.declared.fault.Fault.TheVariants.{Refused, Write, NoMemory}
use Rattle.ff_call_soak.specs.Soaking.{Soaked}

-- it is done, unless memory ran out
pub status-soaked : (n w : ℕ) (before now : Outside) (answer : Result ℕ Fault) → IsQuiet before now → Counts before now answer
    → Soaked n w before now answer → (status_of answer ≡ 0) ⊎ (status_of answer ≡ 6)
status-soaked n w before now (Ok k) quiet counts d = inl refl
status-soaked n w before now (Err Refused) quiet counts d = absurd (quiet.starts (Rose-more before.refused now.refused counts.starts))
status-soaked n w before now (Err Write) quiet counts d = absurd (quiet.output (Rose-more before.output_faults now.output_faults counts.output))
status-soaked n w before now (Err NoMemory) quiet counts d = inr refl
status-soaked n w before now (Err _) quiet counts d = absurd d.0
