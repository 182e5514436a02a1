-- How a run ends, from how its network answered and how the file for the rejected records did.
use Rattle.std.proofs.Common.{◌≡◌, ℕ, List, Option, refl, sym, subst, inl, inr}
use Rattle.std.specs.Prelude.{Bool, true, false, Result, Ok, Err}
use Rattle.ff_rec.specs.Lines.{Rec}
use Rattle.ff_io.specs.Files.{Holdings}
use Rattle.ff_net.specs.Tree.{Tree}
use Rattle.ff_ops.specs.Operation.{OpState}
use Rattle.ff_stream.specs.declared.ending.Report.{Report}
use Rattle.ff_stream.specs.Jobs.{Job}
use Rattle.ff_engine.specs.Runs.{CountsNetInput, net_output_count, refused_count}
use Rattle.ff_engine.specs.declared.fault.NetFault.{NetFault}
use Rattle.ff_engine.specs.declared.fault.NetFault.TheVariants as net
use Rattle.ff_stream.specs.Endings.{Told, stop_count}
use Rattle.ff_stream.specs.declared.ending.Ending.{Ending}
use Rattle.ff_stream.specs.declared.fault.RunFault.TheVariants as run
use Rattle.ff_stream.specs.declared.ending.Stop.{Stop}
use Rattle.ff_stream.specs.declared.ending.Stop.TheVariants as stop
use Rattle.ff_call.specs.Counts.{CountsInput, Output, Spawner, StaysOrRises, count_by, raised}
use Rattle.ff_call.specs.Outside.{Outside}
use Rattle.ff_call.specs.Statuses.{IsEarly}
use Rattle.ff_call_run.specs.Finishing.{Answered, Closes, Finished, closing}
use Rattle.ff_call_run.specs.Running.{AllowedBy, MayRun, Stored, Ran, RanByThreads, run_job, streams_of}
use Rattle.ff_words.specs.declared.command.Way.{Way}
use Rattle.ff_call.specs.declared.fault.Fault.{Fault}
use Rattle.ff_call.specs.declared.fault.Fault.TheVariants.{NoSweep}

module _ (t : Tree OpState) (tasks : ℕ) (threads : Bool) (rejects : Option (List ℕ)) (before now : Outside) where
  abbrev j : Job OpState
  j = run_job t tasks rejects

  -- it ran by threads, where it was to
  abbrev by : List Rec → Type 0
  by xs = threads ≡ true → RanByThreads j xs before now

  -- what was stored behind a run that stopped reading so
  Ran-closing : (why : Stop) (report : Report) → Told j (streams_of before now) by (record { stop = why; report = report })
      → Stored rejects report.kept before.told now.told → Ran j threads rejects before now (closing why report.rejected)
  Ran-closing stop.End report r stored = record { report = report; ran = r.run; rejected = refl; stored = stored; work = r.told }
  Ran-closing stop.Read report r stored = record { report = report; ran = r.run; rejected = refl; stored = stored; work = r.told }
  Ran-closing (stop.Line fault) report r stored = record { report = report; ran = r.run; rejected = refl; stored = stored; work = r.told }

  -- what was stored, lost, or stopped for want of memory behind a run
  Ran-closed : (ending : Ending) (answer : Result ℕ Fault) → Told j (streams_of before now) by ending
      → now.input_faults ≡ stop_count before.input_faults ending.stop
      → Closes rejects ending.report before.told now.told (closing ending.stop ending.report.rejected) answer → Ran j threads rejects before now answer
  Ran-closed ending answer r counts closes =
      let P : Result ℕ Fault → Type 0 = λ a. Ran j threads rejects before now a in
      elim closes [
        | inl closed ↦ subst P (sym closed.0) (Ran-closing ending.stop ending.report r closed.1)
        | inr other ↦ elim other [
          | inl failed ↦ subst P (sym failed.is)
              (record { ending = ending; ran = r.run; reading = counts; rejected = refl; named = failed.named; others = failed.others; work = r.told })
          | inr short ↦ subst P (sym short.0) (inr (record { ending = ending; ran = r.run; reading = counts; kept = short.1; work = r.told }))
        ]
      ]

  pub Ran-finished : (over : Result Ending NetFault) (answer : Result ℕ Fault) → Answered j threads before now over
      → CountsNetInput before.input_faults now.input_faults over → Finished tasks rejects over before.told now.told answer
      → Ran j threads rejects before now answer
  Ran-finished (Ok ending) answer r counts finished = Ran-closed ending answer r counts finished
  Ran-finished (Err net.Refused) answer r counts finished =
      subst (λ (a : Result ℕ Fault). Ran j threads rejects before now a) (sym finished.0) (r.0, r.1, finished.1)
  Ran-finished (Err (net.Run run.Tasks)) answer r counts finished =
      subst (λ (a : Result ℕ Fault). Ran j threads rejects before now a) (sym finished.0) (refl, r, finished.1)
  Ran-finished (Err (net.Run run.Write)) answer r counts finished =
      subst (λ (a : Result ℕ Fault). Ran j threads rejects before now a) (sym finished.0) (r, finished.1)
  Ran-finished (Err (net.Run run.NoMemory)) answer r counts finished =
      subst (λ (a : Result ℕ Fault). Ran j threads rejects before now a) (sym finished.0) (inl (r, finished.1))

-- a count of the input's faults where reading stopped so
StaysOrRises-stop : (why : Stop) (before now : ℕ) → now ≡ stop_count before why → StaysOrRises before now
StaysOrRises-stop stop.End before now e = inl e
StaysOrRises-stop stop.Read before now e = inr e
StaysOrRises-stop (stop.Line fault) before now e = inl e

-- the counts that the answer of a network leaves, by the answer of its run: of the faults of the input, which was at `before`
-- and is at `now`, of the output's, and of refused starts
abbrev pub HasCounts : ℕ → ℕ → ℕ → ℕ → Result Ending NetFault → Result ℕ Fault → Type 0
HasCounts before now output starts over answer =
    CountsInput before now answer
    × (net_output_count output over ≡ count_by (raised Output) output answer)
    × (refused_count starts over ≡ count_by (raised Spawner) starts answer)

module _ (before now output starts : ℕ) where
  HasCounts-closing : (ending : Ending) (why : Stop) (n : ℕ) → now ≡ stop_count before why → HasCounts before now output starts (Ok ending) (closing why n)
  HasCounts-closing ending stop.End n e = (e, refl, refl)
  HasCounts-closing ending stop.Read n e = (e, refl, refl)
  HasCounts-closing ending (stop.Line fault) n e = (e, refl, refl)

  -- Only a write that failed raised the count of the output's faults, and only a start that was refused that of these.
  pub HasCounts-finished : (tasks : ℕ) (rejects : Option (List ℕ)) (told told_now : Option Holdings) (over : Result Ending NetFault) (answer : Result ℕ Fault)
      → CountsNetInput before now over → Finished tasks rejects over told told_now answer → HasCounts before now output starts over answer
  HasCounts-finished tasks rejects told told_now (Ok ending) answer counts finished =
      let P : Result ℕ Fault → Type 0 = λ a. HasCounts before now output starts (Ok ending) a in
      let rose : StaysOrRises before now = StaysOrRises-stop ending.stop before now counts in
      elim finished [
        | inl closed ↦ subst P (sym closed.0) (HasCounts-closing ending ending.stop ending.report.rejected counts)
        | inr other ↦ elim other [
          | inl failed ↦ subst P (sym failed.is) (rose, refl, refl)
          | inr short ↦ subst P (sym short.0) (rose, refl, refl)
        ]
      ]
  HasCounts-finished tasks rejects told told_now (Err net.Refused) answer counts finished =
      subst (HasCounts before now output starts (Err net.Refused)) (sym finished.0) (counts, refl, refl)
  HasCounts-finished tasks rejects told told_now (Err (net.Run run.Tasks)) answer counts finished =
      subst (HasCounts before now output starts (Err (net.Run run.Tasks))) (sym finished.0) (counts, refl, refl)
  HasCounts-finished tasks rejects told told_now (Err (net.Run run.Write)) answer counts finished =
      subst (HasCounts before now output starts (Err (net.Run run.Write))) (sym finished.0) (counts, refl, refl)
  HasCounts-finished tasks rejects told told_now (Err (net.Run run.NoMemory)) answer counts finished =
      subst (HasCounts before now output starts (Err (net.Run run.NoMemory))) (sym finished.0) (counts, refl, refl)

-- a run that ended before anything was read is one whose network answered that a thread was refused
IsEarly-closing : (stop : Stop) (n : ℕ) → IsEarly (closing stop n) → ⊥
IsEarly-closing stop.End n early = early
IsEarly-closing stop.Read n early = absurd (cc)
IsEarly-closing (stop.Line fault) n early = absurd (cc)

pub IsEarly-finished : (tasks : ℕ) (rejects : Option (List ℕ)) (a : Result Ending NetFault) (told now : Option Holdings) (answer : Result ℕ Fault)
    → Finished tasks rejects a told now answer → IsEarly answer → a ≡ Err net.Refused
IsEarly-finished tasks rejects (Ok ending) told now answer closes early =
    let P : Result ℕ Fault → Type 0 = λ r. IsEarly r in
    elim closes [
      | inl done ↦ absurd (IsEarly-closing ending.stop ending.report.rejected (subst P done.0 early))
      | inr lost ↦ elim lost [
        | inl failed ↦ let e : false ≡ true = subst P failed.is early in absurd (cc)
        | inr out ↦ let e : false ≡ true = subst P out.0 early in absurd (cc)
      ]
    ]
IsEarly-finished tasks rejects (Err net.Refused) told now answer h early = refl
IsEarly-finished tasks rejects (Err (net.Run run.Tasks)) told now answer h early =
    let e : false ≡ true = subst (λ (r : Result ℕ Fault). IsEarly r) h.0 early in absurd (cc)
IsEarly-finished tasks rejects (Err (net.Run run.Write)) told now answer h early =
    let e : false ≡ true = subst (λ (r : Result ℕ Fault). IsEarly r) h.0 early in absurd (cc)
IsEarly-finished tasks rejects (Err (net.Run run.NoMemory)) told now answer h early =
    let e : false ≡ true = subst (λ (r : Result ℕ Fault). IsEarly r) h.0 early in absurd (cc)

-- this answer isn't that a network can't be swept
abbrev pub IsSwept : Result ℕ Fault → Type 0
IsSwept (Err NoSweep) = ⊥
IsSwept _ = Unit {0}

IsSwept-closing : (why : Stop) (n : ℕ) → IsSwept (closing why n)
IsSwept-closing stop.End n = tt
IsSwept-closing stop.Read n = tt
IsSwept-closing (stop.Line fault) n = tt

-- nor is that of a run whose network answered
pub IsSwept-finished : (tasks : ℕ) (rejects : Option (List ℕ)) (a : Result Ending NetFault) (told now : Option Holdings) (answer : Result ℕ Fault)
    → Finished tasks rejects a told now answer → IsSwept answer
IsSwept-finished tasks rejects (Ok ending) told now answer closes = elim closes [
  | inl done ↦ subst IsSwept (sym done.0) (IsSwept-closing ending.stop ending.report.rejected)
  | inr lost ↦ elim lost [
    | inl failed ↦ subst IsSwept (sym failed.is) tt
    | inr out ↦ subst IsSwept (sym out.0) tt
  ]
]
IsSwept-finished tasks rejects (Err net.Refused) told now answer h = subst IsSwept (sym h.0) tt
IsSwept-finished tasks rejects (Err (net.Run run.Tasks)) told now answer h = subst IsSwept (sym h.0) tt
IsSwept-finished tasks rejects (Err (net.Run run.Write)) told now answer h = subst IsSwept (sym h.0) tt
IsSwept-finished tasks rejects (Err (net.Run run.NoMemory)) told now answer h = subst IsSwept (sym h.0) tt

-- such an answer is allowed where the network may be run
pub AllowedBy-may : (way : Way) (t : Tree OpState) (answer : Result ℕ Fault) → IsSwept answer → MayRun way t → AllowedBy way t answer
AllowedBy-may way t (Ok n) swept may = may
AllowedBy-may way t (Err NoSweep) swept may = absurd swept
AllowedBy-may way t (Err _) swept may = may
