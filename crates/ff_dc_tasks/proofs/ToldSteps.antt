-- What events tell: places by ids, and how often a part was given and came back.
use Rattle.std.proofs.Common.{◌≡◌, ℕ, ◌≤◌, ◌==◌, inl, inr, List, [], ◌∷◌, None, ℤ, refl, ap, ◌∙◌, sym, subst, arith}
use Rattle.std.proofs.lemmas.Bool.{cases_eq, cond-true, cond-false, eq-eqb, ne_eqb}
use Rattle.std.specs.List.{AllByRecursion}
use Rattle.ff_rec.specs.Weights.{weigh}
use Rattle.ff_rec.proofs.WeightLaws.{weigh-append}
use Rattle.ff_dc.specs.Divisions.{Division, Answers}
use Rattle.ff_loop.specs.Events.{Offered, Given, Back, given, numbers, backs, IsOut, IsNew, HasGiven}
use Rattle.ff_dc_tasks.specs.declared.task.DcTask.{DcTask}
use Rattle.ff_dc_tasks.specs.declared.task.DcTask.TheVariants.{Seq, Combine}
use Rattle.ff_dc_tasks.specs.Tasks.{number_of, value_in, IsTask}
use Rattle.ff_dc_tasks.specs.Paths.{path_at, number_in, path_in}
use Rattle.ff_dc_tasks.specs.Told.{DcEvent, number_with, answers, IsTold}
use Rattle.ff_dc_tasks.proofs.Marks.{hit, hit-same, hit-apart, for_number, of_number, value_in-none}

-- what is known of a task that was given
pub record IsKnown (d : Division) (id : ℕ) (t : DcTask) (done : Answers) : Type 0 where
  pub number : number_in id ≡ number_of t
  pub path : path_in id ≡ path_at d (number_of t)
  pub task : IsTask d done t

-- a task stays one as answers come back
pub IsTask-more : (d : Division) (done : Answers) (x : ℕ × List ℤ) (t : DcTask) → IsTask d done t → IsTask d (x ∷ done) t
IsTask-more d done x (Seq n p) task = task
IsTask-more d done x (Combine n v w) task = (task.0, task.1, task.2, task.3, inr task.4, inr task.5)

pub IsKnown-given : (d : Division) (log : List DcEvent) (id : ℕ) (t : DcTask) → IsTold d log → HasGiven id t log → IsKnown d id t (answers log)
IsKnown-given d [] id t told was = absurd was
IsKnown-given d (Offered u ∷ log) id t told was = IsKnown-given d log id t told was
IsKnown-given d (Given i u ∷ log) id t told was = elim was [
  | inl same ↦ record {
    number = ap number_in (sym same.0) ∙ told.0 ∙ ap number_of same.1;
    path = ap path_in (sym same.0) ∙ told.1 ∙ ap (λ (v : DcTask). path_at d (number_of v)) same.1;
    task = subst (IsTask d (answers log)) same.1 told.2;
  }
  | inr before ↦ IsKnown-given d log id t told.3 before
]
IsKnown-given d (Back i a ∷ log) id t told was =
    let known = IsKnown-given d log id t told.1 was in
    record { number = known.number; path = known.path; task = IsTask-more d (answers log) (number_with i log, a) t known.task }

-- the part of a task that was given, by its id
pub number_with-given : (d : Division) (log : List DcEvent) (id : ℕ) (t : DcTask) → IsTold d log → HasGiven id t log → number_with id log ≡ number_in id
number_with-given d [] id t told was = absurd was
number_with-given d (Offered u ∷ log) id t told was = number_with-given d log id t told was
number_with-given d (Given i u ∷ log) id t told was = elim (cases_eq i id) [
  | inl same ↦ cond-true (i == id) (number_of u) (number_with id log) (eq-eqb i id same) ∙ sym told.0 ∙ ap number_in same
  | inr apart ↦
      cond-false (i == id) (number_of u) (number_with id log) (ne_eqb i id apart)
      ∙ number_with-given d log id t told.3 (elim was [
        | inl same ↦ absurd (apart same.0)
        | inr before ↦ before
      ])
]
number_with-given d (Back i a ∷ log) id t told was = number_with-given d log id t told.1 was

-- how many of the ids are for the part with this number
abbrev pub ids_for : ℕ → List ℕ → ℕ
ids_for n ids = weigh (λ i. hit n (number_in i)) ids

pub ids_for-given : (d : Division) (n : ℕ) (log : List DcEvent) → IsTold d log → for_number n (given log) ≡ ids_for n (numbers log)
ids_for-given d n [] told = refl
ids_for-given d n (Offered u ∷ log) told = ids_for-given d n log told
ids_for-given d n (Given i u ∷ log) told = omega (
  arith,
  weigh-append (λ t. hit n (number_of t)) (given log) (u ∷ []),
  ids_for-given d n log told.3,
  ap (hit n) told.0,
)
ids_for-given d n (Back i a ∷ log) told = ids_for-given d n log told.1

pub ids_for-backs : (d : Division) (n : ℕ) (log : List DcEvent) → IsTold d log → of_number n (answers log) ≡ ids_for n (backs log)
ids_for-backs d n [] told = refl
ids_for-backs d n (Offered u ∷ log) told = ids_for-backs d n log told
ids_for-backs d n (Given i u ∷ log) told = ids_for-backs d n log told.3
ids_for-backs d n (Back i a ∷ log) told = omega (arith, ap (hit n) told.0, ids_for-backs d n log told.1)

-- an id that stands among those given was given with a task
HasGiven-number : (log : List DcEvent) (id : ℕ) → 1 ≤ weigh (hit id) (numbers log) → (t : DcTask) × HasGiven id t log
HasGiven-number [] id some = absurd (omega (arith, some))
HasGiven-number (Offered u ∷ log) id some = HasGiven-number log id some
HasGiven-number (Given i u ∷ log) id some = elim (cases_eq i id) [
  | inl same ↦ (u, inl (same, refl))
  | inr apart ↦
      let rest : (t : DcTask) × HasGiven id t log = HasGiven-number log id (omega (arith, some, hit-apart id i apart)) in
      (rest.0, inr rest.1)
]
HasGiven-number (Back i a ∷ log) id some = HasGiven-number log id some

pub HasGiven-out : (log : List DcEvent) (id : ℕ) → IsOut id log → (t : DcTask) × HasGiven id t log
HasGiven-out log id out = HasGiven-number log id (omega (arith, out.by (hit id), hit-same id id refl))

-- the part of a task that is out has no values yet, where each part was given at most once
pub value_in-out : (d : Division) (log : List DcEvent) (id : ℕ) → IsTold d log → IsOut id log → for_number (number_in id) (given log) ≤ 1
    → value_in (answers log) (number_in id) ≡ None
value_in-out d log id told out once = value_in-none (answers log) (number_in id) (omega (
  arith,
  once,
  ids_for-given d (number_in id) log told,
  ids_for-backs d (number_in id) log told,
  out.by (λ i. hit (number_in id) (number_in i)),
  hit-same (number_in id) (number_in id) refl,
))

-- an id of a part that wasn't given is new
new-ids : (id : ℕ) (ids : List ℕ) → ids_for (number_in id) ids ≡ 0 → AllByRecursion (λ i. ¬ (i ≡ id)) ids
new-ids id [] none = tt
new-ids id (i ∷ ids) none = (λ same. omega (arith, none, hit-same (number_in id) (number_in i) (ap number_in same)), new-ids id ids (omega (arith, none)))

pub IsNew-ungiven : (d : Division) (log : List DcEvent) (id : ℕ) → IsTold d log → for_number (number_in id) (given log) ≡ 0 → IsNew id log
IsNew-ungiven d log id told none = new-ids id (numbers log) (omega (arith, none, ids_for-given d (number_in id) log told))

-- as many ids as tasks
pub numbers-length : (log : List DcEvent) → weigh (λ _. 1) (numbers log) ≡ weigh (λ _. 1) (given log)
numbers-length [] = refl
numbers-length (Offered t ∷ log) = numbers-length log
numbers-length (Given id t ∷ log) = omega (arith, numbers-length log, weigh-append (λ _. 1) (given log) (t ∷ []))
numbers-length (Back id a ∷ log) = numbers-length log
