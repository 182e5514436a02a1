-- From what was written of a network to how its print ends.
use Rattle.std.proofs.Common.{◌≡◌, ℕ, Option, List, refl, inl}
use Rattle.std.specs.Prelude.{Result, Ok, Err}
use Rattle.std.proofs.KnownBytes.{Keeps-refl}
use Rattle.ff_io.specs.Files.{Holdings, KeepsAll}
use Rattle.ff_net.specs.Tree.{Tree}
use Rattle.ff_ops.specs.Operation.{OpState}
use Rattle.ff_call.specs.Counts.{Counts}
use Rattle.ff_call.specs.Outside.{Outside}
use Rattle.ff_call.specs.declared.fault.Fault.{Fault}
use Rattle.ff_call.specs.declared.fault.Fault.TheVariants.{Write, NoMemory}
use Rattle.ff_call_print.specs.Printing.{Printed, Prints, printed}
use Rattle.ff_call_print.specs.declared.print.Form.{Form}

module _ (form : Form) (t : Tree OpState) (before : Outside) (told : Option Holdings) (files : ℕ) (taken : Option (List ℕ)) (faults : ℕ) where
  -- only the files were read, and only the output written
  abbrev now : Outside
  now = record before { told = told; files_faults = files; taken = taken; output_faults = faults }

  pub Printed-prints : (answer : Result ℕ Fault) → KeepsAll before.told told
      → Prints (printed form t) before.taken taken before.output_faults faults answer → Printed form t before now answer
  Printed-prints (Ok n) keeps p = (
    p.none,
    p.all,
    record { left = Keeps-refl before.left; ended = refl; faults = refl; files = keeps },
    record { starts = refl; worked = refl },
  )
  Printed-prints (Err fault) keeps p = (
    p.part,
    record { left = Keeps-refl before.left; ended = refl; faults = refl; files = keeps },
    record { starts = refl; worked = refl },
  )

  pub Counts-prints : (answer : Result ℕ Fault) → files ≡ before.files_faults
      → Prints (printed form t) before.taken taken before.output_faults faults answer → Counts before now answer
  Counts-prints (Ok n) same p = record { files = same; input = refl; output = p.counts; starts = refl }
  Counts-prints (Err Write) same p = record { files = same; input = inl refl; output = p.counts; starts = refl }
  Counts-prints (Err NoMemory) same p = record { files = same; input = inl refl; output = p.counts; starts = refl }
  Counts-prints (Err _) same p = absurd p.part
