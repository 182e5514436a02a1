-- A run that began after its text was read is one of the whole call.
use Rattle.std.proofs.Common.{◌≡◌, ℕ, List, Option, None, Some, ap, inl, inr, ◌∙◌}
use Rattle.std.specs.Prelude.{Bool, Result, Ok, Err}
use Rattle.ff_io.specs.FileLaws.{KeepsAll-trans, KeepsOthers-trans, KeepsOthers-from_KeepsAll}
use Rattle.ff_io.specs.Files.{Holdings, KeepsAll, KeepsOthers}
use Rattle.ff_ops.specs.Operation.{OpState}
use Rattle.ff_rec.specs.Lines.{Rec}
use Rattle.ff_stream.specs.Jobs.{Job}
use Rattle.ff_stream.specs.declared.ending.Stop.{Stop}
use Rattle.ff_call.specs.Counts.{Counts, Files, raised}
use Rattle.ff_call.specs.Outside.{Outside}
use Rattle.ff_call.specs.declared.fault.Fault.{Fault}
use Rattle.ff_call.specs.declared.fault.Fault.TheVariants.{NoSweep, Refused, Tasks, Write, Rejects, Read, Line, NoMemory}
use Rattle.ff_call_run.specs.Running.{KeepsBut, Stored, HasStored, Ran}

-- the files, from before the text was read
others : (old mid now : Option Holdings) (name : List ℕ) → KeepsAll old mid → KeepsOthers mid now name → KeepsOthers old now name
others old mid now name a b = KeepsOthers-trans old mid now name (KeepsOthers-from_KeepsAll old mid name a) b

KeepsBut-all : (rejects : Option (List ℕ)) (old mid now : Option Holdings) → KeepsAll old mid → KeepsBut rejects mid now → KeepsBut rejects old now
KeepsBut-all None old mid now a b = KeepsAll-trans old mid now a b
KeepsBut-all (Some name) old mid now a b = others old mid now name a b

Stored-all : (rejects : Option (List ℕ)) (kept : List Rec) (old mid now : Option Holdings) → KeepsAll old mid → Stored rejects kept mid now → Stored rejects kept old now
Stored-all None kept old mid now a b = KeepsAll-trans old mid now a b
Stored-all (Some name) kept old mid now a b = (b.0, others old mid now name a b.1)

module _ (j : Job OpState) (threads : Bool) (rejects : Option (List ℕ)) (before now : Outside) (mid : Option Holdings) (n : ℕ) (kept : KeepsAll before.told mid) where
  abbrev late : Outside
  late = record before { told = mid; files_faults = n }

  stored : (why : Stop) (k : ℕ) → HasStored j threads rejects late now why k → HasStored j threads rejects before now why k
  stored why k h = record {
    report = h.report;
    ran = h.ran;
    rejected = h.rejected;
    stored = Stored-all rejects h.report.kept before.told mid now.told kept h.stored;
    work = λ by. record { starts = (h.work by).starts; worked = (h.work by).worked };
  }

  pub Ran-early : (answer : Result ℕ Fault) → Ran j threads rejects late now answer → Ran j threads rejects before now answer
  Ran-early (Ok k) h = stored _ k h
  Ran-early (Err (Read k)) h = stored _ k h
  Ran-early (Err (Line f k)) h = stored _ k h
  Ran-early (Err (Rejects name k)) h = record {
    ending = h.ending;
    ran = h.ran;
    reading = h.reading;
    rejected = h.rejected;
    named = h.named;
    others = others before.told mid now.told name kept h.others;
    work = λ by. record { starts = (h.work by).starts; worked = (h.work by).worked };
  }
  Ran-early (Err NoSweep) h = (h.0, KeepsAll-trans before.told mid now.told kept h.1)
  Ran-early (Err Refused) h = (h.0, h.1, KeepsAll-trans before.told mid now.told kept h.2)
  Ran-early (Err (Tasks m)) h = (h.0, h.1, KeepsAll-trans before.told mid now.told kept h.2)
  Ran-early (Err Write) h = (h.0, KeepsAll-trans before.told mid now.told kept h.1)
  Ran-early (Err NoMemory) h = elim h [
    | inl short ↦ inl (short.0, KeepsAll-trans before.told mid now.told kept short.1)
    | inr out ↦ inr (record {
      ending = out.ending;
      ran = out.ran;
      reading = out.reading;
      kept = KeepsBut-all rejects before.told mid now.told kept out.kept;
      work = λ by. record { starts = (out.work by).starts; worked = (out.work by).worked };
    })
  ]
  Ran-early (Err _) h = absurd h

  -- the counts, from before the text was read
  pub Counts-early : (answer : Result ℕ Fault) → n ≡ before.files_faults → Counts late now answer → Counts before now answer
  Counts-early (Ok k) same c = record { files = c.files ∙ same; input = c.input; output = c.output; starts = c.starts }
  Counts-early (Err cause) same c = record { files = c.files ∙ ap (λ m. raised Files m cause) same; input = c.input; output = c.output; starts = c.starts }
