-- How a run ends where no count rose.
use Rattle.std.proofs.Common.{◌≡◌, ◌⊎◌, ℕ, List, ◌++◌, Option, None, Some, IfSome, IsSome, IsSomeAnd, refl, sym, ap, subst, ◌∙◌, inl, inr, append-nil}
use Rattle.std.proofs.lemmas.Bool.{true≢false}
use Rattle.std.specs.Prelude.{Bool, true, Result, Ok, Err}
use Rattle.std.specs.Io.KnownBytes.{Consumes, IsAtEnd}
use Rattle.ff_net.specs.Meaning.{Fine}
use Rattle.ff_net.specs.Tree.{Tree}
use Rattle.ff_net.specs.Versions.{limit_by, seen_by}
use Rattle.ff_ops.specs.Operation.{OpState, op_node}
use Rattle.ff_rec.specs.Limits.{ReadingLaw}
use Rattle.ff_rec.specs.declared.fault.LineFault.{LineFault}
use Rattle.ff_stream.specs.Endings.{IsOverrun, Stopped, stop_count}
use Rattle.ff_stream.specs.declared.ending.Stop.{Stop}
use Rattle.ff_stream.specs.declared.ending.Stop.TheVariants as stop
use Rattle.ff_call.specs.Counts.{Counts}
use Rattle.ff_call.specs.GivenLaws.{Rose-more}
use Rattle.ff_call.specs.Outside.{Outside, IsQuiet}
use Rattle.ff_call.specs.Statuses.{status_of}
use Rattle.ff_call.specs.Texts.{version}
use Rattle.ff_call.specs.declared.fault.Fault.{Fault}
use Rattle.ff_call.specs.declared.fault.Fault.TheVariants.{NoSweep, Refused, Tasks, Line, Read, Write, Rejects, NoMemory}
use Rattle.ff_call_run.specs.LimitLaws.{limit_by-left}
use Rattle.ff_call_run.specs.Running.{CannotSweep, IsRunBeyond, IsRunWithin, MayRun, RunDone, run_job, streams_of}
use Rattle.ff_words.specs.declared.command.Way.{Way}

-- what was read of an input that is known and at its end is all of it
whole : (left now : Option (List ℕ)) (got bytes : List ℕ) → Consumes left now got → IsAtEnd now → left ≡ Some bytes → bytes ≡ got
whole None now got bytes reads end is = absurd (cc)
whole (Some xs) None got bytes reads end is = absurd reads
whole (Some xs) (Some ys) got bytes reads end is =
    let same : xs ≡ bytes = cc in
    sym same ∙ reads ∙ ap (λ (rest : List ℕ). got ++ rest) end ∙ append-nil got

limited : ReadingLaw → (left now : Option (List ℕ)) (got bytes : List ℕ) (f : LineFault) → Consumes left now got → limit_by version got ≡ Some f → left ≡ Some bytes → limit_by version bytes ≡ Some f
limited law left now got bytes f reads e is = subst (λ (o : Option (List ℕ)). IfSome o (λ b. limit_by version b ≡ Some f)) is (limit_by-left law left now got f reads e)

None-Some : {A : Type 0} (o : Option A) (x : A) → o ≡ None → o ≡ Some x → ⊥
None-Some o x none some = let e : Some x ≡ None = sym some ∙ none in cc

-- what is some is something
some_of : (o : Option LineFault) → IsSome o → (f : LineFault) × (o ≡ Some f)
some_of None h = absurd (cc)
some_of (Some f) h = (f, refl)

-- bytes that are known
known : (left : Option (List ℕ)) (P : List ℕ → Type 0) → IsSomeAnd left P → (bytes : List ℕ) × (left ≡ Some bytes) × P bytes
known None P h = absurd h
known (Some bytes) P h = (bytes, refl, h)

-- the records of a whole input, where it was read to its end
at_end : (got bytes : List ℕ) (ended : Bool) → bytes ≡ got → ended ≡ true → seen_by version got ended ≡ seen_by version bytes true
at_end got bytes ended same is = ap (λ (e : Bool). seen_by version got e) is ∙ ap (λ (b : List ℕ). seen_by version b true) (sym same)

-- what may be run is no network that is to be swept and can't be
may_sweep : (way : Way) (t : Tree OpState) → MayRun way t → CannotSweep way t → ⊥
may_sweep way t may cannot = true≢false (sym (may cannot.0) ∙ cannot.1)

module _ (law : ReadingLaw) (way : Way) (tasks : ℕ) (rejects : Option (List ℕ)) (t : Tree OpState) (before now : Outside) (quiet : IsQuiet before now) where
  -- a run within its limits isn't over them, however it stopped reading
  Overrun-stopped : (got bytes : List ℕ) (why : Stop) → Consumes before.left now.left got
      → (Fine op_node tasks t (seen_by version got now.ended) → ⊥) → Stopped why (limit_by version got) now.ended now.left
      → now.input_faults ≡ stop_count before.input_faults why → before.left ≡ Some bytes
      → (limit_by version bytes ≡ None) × Fine op_node tasks t (seen_by version bytes true) → ⊥
  Overrun-stopped got bytes stop.End reads over stops counts is within =
      let same = whole before.left now.left got bytes reads stops.2 is in
      over (subst (λ xs. Fine op_node tasks t xs) (sym (at_end got bytes now.ended same stops.1)) within.1)
  Overrun-stopped got bytes stop.Read reads over stops counts is within = quiet.input (Rose-more before.input_faults now.input_faults counts)
  Overrun-stopped got bytes (stop.Line f) reads over stops counts is within =
      None-Some (limit_by version bytes) f within.0 (limited law before.left now.left got bytes f reads stops.0 is)

  Overrun-within : IsOverrun (run_job t tasks rejects) (streams_of before now) → IsRunWithin way tasks t before.left → ⊥
  Overrun-within o within =
      let input = known before.left _ within.1 in
      Overrun-stopped o.got input.0 o.read_out.stop o.reads o.over o.read_out.stops o.read_out.counts input.1 input.2

  -- such a run passes no limit
  Line-within : (f : LineFault) (n : ℕ) → RunDone tasks way rejects t before now (Err (Line f n)) → IsRunWithin way tasks t before.left → ⊥
  Line-within f n d within =
      let input = known before.left _ within.1 in
      let ran = d.1.ran in
      None-Some (limit_by version input.0) f input.2.0 (limited law before.left now.left ran.got input.0 f ran.reads ran.stops.0 input.1)

  -- it is done, unless memory ran out
  pub status-within : (answer : Result ℕ Fault) → Counts before now answer → IsRunWithin way tasks t before.left
      → RunDone tasks way rejects t before now answer → (status_of answer ≡ 0) ⊎ (status_of answer ≡ 6)
  status-within (Ok n) counts within d = inl refl
  status-within (Err NoSweep) counts within d = absurd (may_sweep way t within.0 d.0)
  status-within (Err Refused) counts within d = absurd (quiet.starts (Rose-more before.refused now.refused counts.starts))
  status-within (Err (Tasks m)) counts within d = absurd (Overrun-within d.1.1 within)
  status-within (Err (Line f n)) counts within d = absurd (Line-within f n d within)
  status-within (Err (Read n)) counts within d = absurd (quiet.input (Rose-more before.input_faults now.input_faults counts.input))
  status-within (Err Write) counts within d = absurd (quiet.output (Rose-more before.output_faults now.output_faults counts.output))
  status-within (Err (Rejects name n)) counts within d = absurd (quiet.files (Rose-more before.files_faults now.files_faults counts.files))
  status-within (Err NoMemory) counts within d = inr refl
  status-within (Err _) counts within d = absurd d.1

  -- a run that was done is within its limits
  beyond-done : (n : ℕ) → IsRunBeyond way tasks t before.left → RunDone tasks way rejects t before now (Ok n) → ⊥
  beyond-done n beyond d =
      let input = known before.left _ beyond.1 in
      let bytes = input.0 in
      let ran = d.1.ran in
      let stops = ran.stops in
      let same = whole before.left now.left ran.got bytes ran.reads stops.2 input.1 in
      elim input.2 [
        | inl passed ↦ (let f = some_of (limit_by version bytes) passed in
            None-Some (limit_by version ran.got) f.0 stops.0 (ap (λ (b : List ℕ). limit_by version b) (sym same) ∙ f.1))
        | inr over ↦ over (subst (λ xs. Fine op_node tasks t xs) (at_end ran.got bytes now.ended same stops.1) ran.answers.fine)
      ]

  -- one beyond them is told its limit, unless memory ran out
  pub status-beyond : (answer : Result ℕ Fault) → Counts before now answer → IsRunBeyond way tasks t before.left
      → RunDone tasks way rejects t before now answer → (status_of answer ≡ 3) ⊎ (status_of answer ≡ 6)
  status-beyond (Ok n) counts beyond d = absurd (beyond-done n beyond d)
  status-beyond (Err NoSweep) counts beyond d = absurd (may_sweep way t beyond.0 d.0)
  status-beyond (Err Refused) counts beyond d = absurd (quiet.starts (Rose-more before.refused now.refused counts.starts))
  status-beyond (Err (Tasks m)) counts beyond d = inl refl
  status-beyond (Err (Line f n)) counts beyond d = inl refl
  status-beyond (Err (Read n)) counts beyond d = absurd (quiet.input (Rose-more before.input_faults now.input_faults counts.input))
  status-beyond (Err Write) counts beyond d = absurd (quiet.output (Rose-more before.output_faults now.output_faults counts.output))
  status-beyond (Err (Rejects name n)) counts beyond d = absurd (quiet.files (Rose-more before.files_faults now.files_faults counts.files))
  status-beyond (Err NoMemory) counts beyond d = inr refl
  status-beyond (Err _) counts beyond d = absurd d.1

-- a network that is to be swept and can't be is told so, and no other answer comes
pub status-unswept : (way : Way) (tasks : ℕ) (rejects : Option (List ℕ)) (t : Tree OpState) (before now : Outside) (answer : Result ℕ Fault)
    → CannotSweep way t → RunDone tasks way rejects t before now answer → status_of answer ≡ 2
status-unswept way tasks rejects t before now (Ok n) cannot d = absurd (may_sweep way t d.0 cannot)
status-unswept way tasks rejects t before now (Err NoSweep) cannot d = refl
status-unswept way tasks rejects t before now (Err _) cannot d = absurd (may_sweep way t d.0 cannot)
