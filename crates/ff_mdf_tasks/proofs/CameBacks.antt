-- What is ready stays so, with the same values, when one more answer comes back.
use Rattle.std.proofs.Common.{◌≡◌, ℕ, suc, Bool, true, List, [], ◌∷◌, ◌++◌, Option, None, Some, refl, ap, ◌∙◌, subst, inl, inr}
use Rattle.std.specs.Prelude.{◌==◌, is_some, option_map, slice_get}
use Rattle.std.specs.List.{AllByRecursion, list_all}
use Rattle.std.proofs.lemmas.Bool.{and_from, and_parts, both_ways, cases_Bool, cond-false, eqb-true}
use Rattle.ff_prog.specs.Rules.{is_task}
use Rattle.ff_prog.specs.Writers.{latest, name_in, name_if, reads}
use Rattle.ff_prog.specs.declared.statement.Statement.{Statement}
use Rattle.ff_prog.specs.declared.statement.Statement.TheVariants.{Task, Out}
use Rattle.ff_mdf.specs.Orders.{Back, back_of, came, by_backs}
use Rattle.ff_mdf.specs.Stores.{Env, given, value_of, value_if}
use Rattle.ff_mdf.specs.Values.{or_bad}
use Rattle.ff_mdf.proofs.Orders.{Agree, parts, value_same, value_if_same}
use Rattle.ff_mdf_tasks.specs.declared.task.MdfTask.{MdfTask}
use Rattle.ff_mdf_tasks.specs.Tasks.{writer_back, is_back, is_ready, task_by, task_at}

-- a test that follows from another
pub list_all-weaker : {X : Type 0} (p q : X → Bool) → ((x : X) → p x ≡ true → q x ≡ true) → (xs : List X) → list_all p xs ≡ true → list_all q xs ≡ true
list_all-weaker p q f [] h = refl
list_all-weaker p q f (x ∷ xs) h =
    let both = and_parts (p x) (list_all p xs) h in
    and_from (q x) (list_all q xs) (f x both.0) (list_all-weaker p q f xs both.1)

-- a test that everything passes
pub list_all-each : {X : Type 0} (p : X → Bool) → ((x : X) → p x ≡ true) → (xs : List X) → list_all p xs ≡ true
list_all-each p f [] = refl
list_all-each p f (x ∷ xs) = and_from (p x) (list_all p xs) (f x) (list_all-each p f xs)

-- what follows of each element from a test that all pass
pub list_all-follows : {X : Type 0} (p : X → Bool) (P : X → Type 0) → ((x : X) → p x ≡ true → P x) → (xs : List X) → list_all p xs ≡ true → AllByRecursion P xs
list_all-follows p P f [] h = tt
list_all-follows p P f (x ∷ xs) h =
    let both = and_parts (p x) (list_all p xs) h in
    (f x both.0, list_all-follows p P f xs both.1)

-- a statement that is ready is a task, and the writers of what it reads are back
pub is_ready-parts : (ss : List Statement) (backs : List Back) (k : ℕ) → is_ready ss backs k ≡ true
    → (is_task (slice_get ss k) ≡ true) × (list_all (is_back ss backs k) (reads (slice_get ss k)) ≡ true)
is_ready-parts ss backs k ready = and_parts (is_task (slice_get ss k)) (list_all (is_back ss backs k) (reads (slice_get ss k))) ready

-- a task rests on the values of the names that it reads alone
task_by-same : (k : ℕ) (e f : Env) (s : Option Statement) → AllByRecursion (Agree e f) (reads s) → task_by k s e ≡ task_by k s f
task_by-same k e f (Some (Task first second op a b c)) h =
    let one = parts (Agree e f) (name_in a) (name_if b ++ name_if c) h in
    let two = parts (Agree e f) (name_if b) (name_if c) one.1 in
    let task : _ → _ → _ → MdfTask = λ x y z. record { number = suc k; op = op; a = x; b = y; c = z } in
    ap (λ v. task v (value_if e b) (value_if e c)) (value_same e f a one.0)
    ∙ ap (λ v. task (value_of f a) v (value_if e c)) (value_if_same e f b two.0)
    ∙ ap (λ v. task (value_of f a) (value_if f b) v) (value_if_same e f c two.1)
task_by-same k e f (Some (Out names)) h = refl
task_by-same k e f None h = refl

module _ (backs : List Back) (b : Back) (fresh : back_of backs b.id ≡ None) where
  -- an answer that is back
  back_of-stays : (j : ℕ) → is_some (back_of backs j) ≡ true → back_of (b ∷ backs) j ≡ back_of backs j
  back_of-stays j back = elim (cases_Bool (b.id == j)) [
    | inl e ↦ absurd (both_ways (is_some (back_of backs j)) (ap (λ r. is_some r) (subst (λ i. back_of backs i ≡ None) (eqb-true b.id j e) fresh)) back)
    | inr e ↦ cond-false (b.id == j) (Some b.answer) (back_of backs j) e
  ]

  writer_back-stays : (o : Option ℕ) → writer_back backs o ≡ true → writer_back (b ∷ backs) o ≡ true
  writer_back-stays None back = refl
  writer_back-stays (Some j) back = ap (λ r. is_some r) (back_of-stays j back) ∙ back

  came-stays : (ss : List Statement) (n : List ℕ) (o : Option ℕ) → writer_back backs o ≡ true → came ss (b ∷ backs) n o ≡ came ss backs n o
  came-stays ss n None back = refl
  came-stays ss n (Some j) back = ap (λ r. or_bad (option_map (λ x. given (slice_get ss j) x n) r)) (back_of-stays j back)

  module _ (ss : List Statement) (k : ℕ) (ready : is_ready ss backs k ≡ true) where
    pub is_ready-stays : is_ready ss (b ∷ backs) k ≡ true
    is_ready-stays =
        let both = is_ready-parts ss backs k ready in
        and_from (is_task (slice_get ss k)) (list_all (is_back ss (b ∷ backs) k) (reads (slice_get ss k))) both.0
        (list_all-weaker (is_back ss backs k) (is_back ss (b ∷ backs) k) (λ n. writer_back-stays (latest ss n k)) (reads (slice_get ss k)) both.1)

    pub task_at-stays : task_at ss (b ∷ backs) k ≡ task_at ss backs k
    task_at-stays = task_by-same k (by_backs ss (b ∷ backs) k) (by_backs ss backs k) (slice_get ss k)
        (list_all-follows (is_back ss backs k) (Agree (by_backs ss (b ∷ backs) k) (by_backs ss backs k)) (λ n. came-stays ss n (latest ss n k))
        (reads (slice_get ss k)) ((is_ready-parts ss backs k ready).1))
