-- From what was written of a soak to how it ends.
use Rattle.std.proofs.Common.{ℕ, Option, List, refl, inl}
use Rattle.std.specs.Prelude.{Result, Ok, Err}
use Rattle.std.proofs.KnownBytes.{Keeps-refl}
use Rattle.ff_io.specs.FileLaws.{KeepsAll-refl}
use Rattle.ff_call.specs.Counts.{Counts}
use Rattle.ff_call.specs.Outside.{Outside, ReadsNothing}
use Rattle.ff_call.specs.declared.fault.Fault.{Fault}
use Rattle.ff_call.specs.declared.fault.Fault.TheVariants.{Refused, Write, NoMemory}
use Rattle.ff_call_soak.specs.Soaking.{MayHaveRanThreads, Soaked, Soaks}

module _ (n w : ℕ) (before : Outside) (taken : Option (List ℕ)) (faults refused starts worked : ℕ) where
  -- only the output was written, and threads were started
  abbrev now : Outside
  now = record before { taken = taken; output_faults = faults; refused = refused; starts = starts; worked = worked }

  unread : ReadsNothing before now
  unread = record { left = Keeps-refl before.left; ended = refl; faults = refl; files = KeepsAll-refl before.told }

  pub Soaked-soaks : (answer : Result ℕ Fault) → Soaks n before.taken taken before.output_faults faults before.refused refused answer
      → MayHaveRanThreads n w before.starts starts before.worked worked answer → Soaked n w before now answer
  Soaked-soaks (Ok k) s ran = (s.none, s.all, ran, unread)
  Soaked-soaks (Err cause) s ran = (s.part, ran, unread)

  pub Counts-soaks : (answer : Result ℕ Fault) → Soaks n before.taken taken before.output_faults faults before.refused refused answer
      → Counts before now answer
  Counts-soaks (Ok k) s = record { files = refl; input = refl; output = s.counts; starts = s.starts }
  Counts-soaks (Err Refused) s = record { files = refl; input = refl; output = s.counts; starts = s.starts }
  Counts-soaks (Err Write) s = record { files = refl; input = inl refl; output = s.counts; starts = s.starts }
  Counts-soaks (Err NoMemory) s = record { files = refl; input = inl refl; output = s.counts; starts = s.starts }
  Counts-soaks (Err _) s = absurd s.part
