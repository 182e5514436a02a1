-- How a network is run of which nothing is sent before the whole input is read.
use Rattle.std.proofs.Common.{◌≡◌, ℕ, List, [], ◌∷◌, ◌++◌, Ok, Err, inl, refl, sym, ◌∙◌, append-nil, subst}
use Rattle.std.specs.Prelude.{Option, Result}
use Rattle.std.proofs.KnownBytes.{Appends-nil, Keeps-refl}
use Rattle.ff_rec.specs.Lines.{Rec, text}
use Rattle.ff_net.specs.Meaning.{Fine}
use Rattle.ff_mean.specs.Runs.{Answered}
use Rattle.ff_mean.specs.declared.outcome.Outcome.{Outcome}
use Rattle.ff_mean.specs.declared.outcome.Outcome.TheVariants.{Done, Over}
use Rattle.ff_stream.specs.Endings.{halted}
use Rattle.ff_stream.specs.FlowLaws.{Answers-mean, Begun-beginning}
use Rattle.ff_stream.specs.Jobs.{Job}
use Rattle.ff_stream.specs.Texts.{Writes, WritesSome}
use Rattle.ff_stream.specs.Works.{Ends, Goes, Halts, HasBroken, IsOpen}
use Rattle.ff_stream.specs.declared.ending.Report.{Report}
use Rattle.ff_stream.specs.declared.fault.Halt.{Halt}
use Rattle.ff_stream.specs.declared.fault.Halt.TheVariants.{Write, NoMemory}
use Rattle.ff_stream.specs.declared.fault.RunFault.{RunFault}
use Rattle.ff_stream.specs.declared.fault.RunFault.TheVariants.{Tasks, NoMemory as NoMemoryFault}
use Rattle.ff_stream.proofs.Goings.{Halts-broken}
use Rattle.ff_single.specs.Wholes.{Gathers, IsSolved, Solved}

-- how work ends of this job, for these records
Ends-overrun : {N : Type 0} (j : Job N) (xs : List Rec) (t : Option (List ℕ)) → (Fine j.does j.tasks j.net xs → ⊥) → Ends j xs [] t t (Err Tasks)
Ends-overrun j xs t over = record { over = over; nothing = refl; untouched = Keeps-refl t }

Ends-memory : {N : Type 0} (j : Job N) (xs : List Rec) (t : Option (List ℕ)) → Ends j xs [] t t (Err NoMemoryFault)
Ends-memory j xs t = record { put = []; taken = Appends-nil t; begun = inl refl }

Ends-written : {N : Type 0} (j : Job N) (xs ys : List Rec) (report : Report) (t u : Option (List ℕ)) → IsSolved j xs ys report.rejected report.kept
    → Writes (text ys) [] t u → Ends j xs [] t u (Ok report)
Ends-written j xs ys report t u solved writes = record {
  put = writes.put;
  taken = writes.taken;
  sent = ys;
  answers = solved.answers;
  whole = writes.splits ∙ append-nil writes.put;
  reports = record { rejected = solved.rejected; kept = solved.kept };
}

HasBroken-cut : {N : Type 0} (j : Job N) (halt : Halt) (xs ys : List Rec) (number : ℕ) (kept : List Rec) (t u : Option (List ℕ)) → IsSolved j xs ys number kept
    → WritesSome (text ys) t u → HasBroken j halt xs [] t u
HasBroken-cut j halt xs ys number kept t u solved writes = record {
  put = writes.put;
  taken = writes.taken;
  begun = Begun-beginning j halt xs writes.put
      (record { sent = ys; back = writes.back; answers = solved.answers; splits = writes.splits });
}

Ends-cut : {N : Type 0} (j : Job N) (halt : Halt) (xs ys : List Rec) (number : ℕ) (kept : List Rec) (t u : Option (List ℕ)) → IsSolved j xs ys number kept
    → WritesSome (text ys) t u → Ends j xs [] t u (Err (halted halt))
Ends-cut j Write xs ys number kept t u solved writes = HasBroken-cut j Write xs ys number kept t u solved writes
Ends-cut j NoMemory xs ys number kept t u solved writes = HasBroken-cut j NoMemory xs ys number kept t u solved writes

-- what a run gave that wasn't over its limit
IsSolved-done : {N : Type 0} (j : Job N) (xs : List Rec) (outcome : Outcome) (ys : List Rec) (number : ℕ) (kept : List Rec) → Solved j xs outcome
    → outcome ≡ Done ys number kept → IsSolved j xs ys number kept
IsSolved-done j xs outcome ys number kept solved is = subst (λ (o : Outcome). Solved j xs o) is solved

-- one that was
not-fine : {N : Type 0} (j : Job N) (xs : List Rec) (outcome : Outcome) → Solved j xs outcome → outcome ≡ Over → Fine j.does j.tasks j.net xs → ⊥
not-fine j xs outcome solved is = subst (λ (o : Outcome). Solved j xs o) is solved

-- what a run of each node on its whole list gives
pub Solved-meant : {N : Type 0} (j : Job N) (xs : List Rec) (outcome : Outcome) → Answered j.does j.tasks j.keep j.net xs outcome → Solved j xs outcome
Solved-meant j xs (Done ys number kept) meant = record { answers = Answers-mean j xs ys meant.fine meant.sent; rejected = meant.rejected; kept = meant.kept }
Solved-meant j xs Over over = over

-- a record was added
pub Goes-pushed : {N W : Type 0} (stands : Job N → W → List Rec → List ℕ → Type 0) (w v : W) (r : Rec) (t : Option (List ℕ))
    → ((j : Job N) (xs : List Rec) (front : List ℕ) → stands j w xs front → stands j v (xs ++ r ∷ []) front) → Goes stands w (r ∷ []) v t t
Goes-pushed stands w v r t adds = record {
  put = [];
  taken = Appends-nil t;
  keeps = λ j xs front at. subst (λ l. stands j v (xs ++ r ∷ []) l) (sym (append-nil front)) (adds j xs front at);
}

-- nothing was written yet
pub IsOpen-nothing : {N : Type 0} (j : Job N) (xs : List Rec) (front : List ℕ) → front ≡ [] → IsOpen j NoMemory xs front
IsOpen-nothing j xs front nothing = record { begun = λ zs. inl nothing; waits = λ wraps. (nothing, refl) }

-- memory ran out at a record
pub Halts-unpushed : {N W : Type 0} (stands : Job N → W → List Rec → List ℕ → Type 0) (w v : W) (r : Rec) (t : Option (List ℕ))
    → ((j : Job N) (xs : List Rec) (front : List ℕ) → stands j w xs front → front ≡ []) → Halts stands (λ j _ halt xs front. IsOpen j halt xs front) w (r ∷ []) NoMemory v t t
Halts-unpushed stands w v r t nothing =
    Halts-broken stands (λ j _ halt xs front. IsOpen j halt xs front) w v (r ∷ []) NoMemory [] t t (Appends-nil t)
    (λ j xs front at. IsOpen-nothing j (xs ++ r ∷ []) (front ++ []) (append-nil front ∙ nothing j xs front at))

Ends-gathers : {N : Type 0} (own j : Job N) (records xs : List Rec) (front : List ℕ) (t u : Option (List ℕ)) (answer : Result Report RunFault) → Gathers own records j xs front
    → Ends own records [] t u answer → Ends j xs front t u answer
Ends-gathers own j records xs front t u answer at ends =
    subst (λ (k : Job _). Ends k xs front t u answer) (sym at.runs)
    (subst (λ l. Ends own l front t u answer) at.given
    (subst (λ l. Ends own records l t u answer) (sym at.nothing) ends))

module _ {N : Type 0} (own : Job N) (records : List Rec) where
  -- however the work ends
  abbrev pub Finished : Option (List ℕ) → Option (List ℕ) → Result Report RunFault → Type 0
  Finished t u answer = (j : Job N) (xs : List Rec) (front : List ℕ) → Gathers own records j xs front → Ends j xs front t u answer

  pub Finished-memory : (t : Option (List ℕ)) → Finished t t (Err NoMemoryFault)
  Finished-memory t j xs front at = Ends-gathers own j records xs front t t (Err NoMemoryFault) at (Ends-memory own records t)

  module _ (outcome : Outcome) (solved : Solved own records outcome) where
    pub Finished-over : (t : Option (List ℕ)) → outcome ≡ Over → Finished t t (Err Tasks)
    Finished-over t is j xs front at =
        Ends-gathers own j records xs front t t (Err Tasks) at (Ends-overrun own records t (not-fine own records outcome solved is))

    pub Finished-written : (report : Report) (ys : List Rec) (t u : Option (List ℕ)) → outcome ≡ Done ys report.rejected report.kept → Writes (text ys) [] t u → Finished t u (Ok report)
    Finished-written report ys t u is writes j xs front at =
        Ends-gathers own j records xs front t u (Ok report) at
        (Ends-written own records ys report t u (IsSolved-done own records outcome ys report.rejected report.kept solved is) writes)

    pub Finished-cut : (halt : Halt) (ys : List Rec) (number : ℕ) (kept : List Rec) (t u : Option (List ℕ)) → outcome ≡ Done ys number kept → WritesSome (text ys) t u
        → Finished t u (Err (halted halt))
    Finished-cut halt ys number kept t u is writes j xs front at =
        Ends-gathers own j records xs front t u (Err (halted halt)) at
        (Ends-cut own halt records ys number kept t u (IsSolved-done own records outcome ys number kept solved is) writes)
