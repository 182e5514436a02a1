-- From what was written of a program to how its run ends.
use Rattle.std.proofs.Common.{◌≡◌, ℕ, Option, List, refl, inl}
use Rattle.std.specs.Prelude.{Result, Ok, Err}
use Rattle.std.proofs.KnownBytes.{Keeps-refl}
use Rattle.ff_io.specs.Files.{Holdings, KeepsAll}
use Rattle.ff_prog.specs.declared.statement.Statement.{Statement}
use Rattle.ff_call.specs.Counts.{Counts, Files, raised}
use Rattle.ff_call.specs.Outside.{Outside, ReadsNothing}
use Rattle.ff_call.specs.declared.fault.Fault.{Fault}
use Rattle.ff_call.specs.declared.fault.Fault.TheVariants.{File, TooLong, BadStatement, BrokenProgram, Refused, Write, NoMemory}
use Rattle.ff_words.specs.declared.command.Given.{Given}
use Rattle.ff_call_mdf.specs.Computing.{Computed, MayHaveWorked, WritesStore}
use Rattle.ff_call_mdf.specs.Programs.{IsProgramFault}

-- no other count rose than that of the files where the text is at fault
pub Counts-fault : (before : Outside) (told : Option Holdings) (n : ℕ) (given : Given) (fault : Fault)
    → IsProgramFault before.told given fault → n ≡ raised Files before.files_faults fault
    → Counts before (record before { told = told; files_faults = n }) (Err fault)
Counts-fault before told n given (File name) is rose = record { files = rose; input = refl; output = refl; starts = refl }
Counts-fault before told n given TooLong is rose = record { files = rose; input = refl; output = refl; starts = refl }
Counts-fault before told n given (BadStatement s) is rose = record { files = rose; input = refl; output = refl; starts = refl }
Counts-fault before told n given (BrokenProgram rule s) is rose = record { files = rose; input = refl; output = refl; starts = refl }
Counts-fault before told n given NoMemory is rose = record { files = rose; input = inl refl; output = refl; starts = refl }
Counts-fault before told n given _ is rose = absurd is

module _ (p : List Statement) (w : ℕ) (before : Outside) (told : Option Holdings) (files : ℕ) (taken : Option (List ℕ)) (faults refused starts worked : ℕ) where
  -- the files were read, the output was written, and threads were started
  abbrev now : Outside
  now = record before {
    told = told;
    files_faults = files;
    taken = taken;
    output_faults = faults;
    refused = refused;
    starts = starts;
    worked = worked;
  }

  unread : KeepsAll before.told told → ReadsNothing before now
  unread keeps = record { left = Keeps-refl before.left; ended = refl; faults = refl; files = keeps }

  pub Computed-writes : (answer : Result ℕ Fault) → KeepsAll before.told told
      → WritesStore p before.taken taken before.output_faults faults before.refused refused answer
      → MayHaveWorked p w before.starts starts before.worked worked answer → Computed p w before now answer
  Computed-writes (Ok k) keeps s ran = (s.none, s.all, ran, unread keeps)
  Computed-writes (Err cause) keeps s ran = (s.part, ran, unread keeps)

  pub Counts-writes : (answer : Result ℕ Fault) → files ≡ before.files_faults
      → WritesStore p before.taken taken before.output_faults faults before.refused refused answer → Counts before now answer
  Counts-writes (Ok k) same s = record { files = same; input = refl; output = s.counts; starts = s.starts }
  Counts-writes (Err Refused) same s = record { files = same; input = refl; output = s.counts; starts = s.starts }
  Counts-writes (Err Write) same s = record { files = same; input = inl refl; output = s.counts; starts = s.starts }
  Counts-writes (Err NoMemory) same s = record { files = same; input = inl refl; output = s.counts; starts = s.starts }
  Counts-writes (Err _) same s = absurd s.part
