-- How a print ends where no count rose.
use Rattle.std.proofs.Common.{◌≡◌, ◌⊎◌, ℕ, refl, inl, inr}
use Rattle.std.specs.Prelude.{Result, Ok, Err}
use Rattle.ff_net.specs.Tree.{Tree}
use Rattle.ff_ops.specs.Operation.{OpState}
use Rattle.ff_call.specs.Counts.{Counts}
use Rattle.ff_call.specs.GivenLaws.{Rose-more}
use Rattle.ff_call.specs.Outside.{Outside, IsQuiet}
use Rattle.ff_call.specs.Statuses.{status_of}
use Rattle.ff_call.specs.declared.fault.Fault.{Fault}
use Rattle.ff_call.specs.declared.fault.Fault.TheVariants.{Write, NoMemory}
use Rattle.ff_call_print.specs.Printing.{Printed}
use Rattle.ff_call_print.specs.declared.print.Form.{Form}

-- it is done, unless memory ran out
pub status-printed : (form : Form) (t : Tree OpState) (before now : Outside) (answer : Result ℕ Fault) → IsQuiet before now → Counts before now answer
    → Printed form t before now answer → (status_of answer ≡ 0) ⊎ (status_of answer ≡ 6)
status-printed form t before now (Ok n) quiet counts d = inl refl
status-printed form t before now (Err Write) quiet counts d = absurd (quiet.output (Rose-more before.output_faults now.output_faults counts.output))
status-printed form t before now (Err NoMemory) quiet counts d = inr refl
status-printed form t before now (Err _) quiet counts d = absurd d.0
