-- How often numbers stand in lists, and among the statements that are ready.
use Rattle.std.proofs.Common.{◌≡◌, ℕ, zero, suc, ◌+◌, ◌<◌, ◌≤◌, Bool, true, false, List, [], ◌∷◌, ◌++◌, length, map, take, drop, refl, sym, ap, ◌∙◌, subst, arith, inl, inr}
use Rattle.std.specs.Prelude.{◌==◌, if◌then◌else◌, slice_get}
use Rattle.std.specs.List.{AllByRecursion}
use Rattle.std.proofs.lemmas.Bool.{and_parts, both_ways, cases_eq, cases_lt, eq-eqb, false_from_ne_true, ne_eqb}
use Rattle.std.proofs.lemmas.Bool.Decides.{Decides-eqb}
use Rattle.std.proofs.lemmas.List.{take-append-drop}
use Rattle.std.proofs.lemmas.Option.{slice_get_past}
use Rattle.std.specs.List.{list_all}
use Rattle.ff_rec.specs.Weights.{Same, weigh}
use Rattle.ff_rec.proofs.WeightLaws.{weigh-append, Same-marks}
use Rattle.ff_prog.specs.Rules.{is_task}
use Rattle.ff_prog.specs.Writers.{reads}
use Rattle.ff_prog.specs.declared.statement.Statement.{Statement}
use Rattle.ff_mdf.specs.Orders.{Back}
use Rattle.ff_mdf_tasks.specs.Queues.{occurs}
use Rattle.ff_mdf_tasks.specs.Tasks.{is_back, is_ready, ready_until}

-- 1 where it holds, else 0
abbrev pub flag : Bool → ℕ
flag b = if b then 1 else 0

pub occurs-append : (k : ℕ) (xs ys : List ℕ) → occurs k (xs ++ ys) ≡ occurs k xs + occurs k ys
occurs-append k xs ys = weigh-append (λ x. if k == x then 1 else 0) xs ys

pub occurs-one : (k : ℕ) → occurs k (k ∷ []) ≡ 1
occurs-one k = ap (λ b. flag b + 0) (eq-eqb k k refl)

pub occurs-other : (k j : ℕ) → (k ≡ j → ⊥) → occurs k (j ∷ []) ≡ 0
occurs-other k j other = ap (λ b. flag b + 0) (ne_eqb k j other)

-- one more at the end
pub occurs-push_same : (k : ℕ) (xs : List ℕ) → occurs k (xs ++ k ∷ []) ≡ occurs k xs + 1
occurs-push_same k xs = occurs-append k xs (k ∷ []) ∙ ap (λ n. occurs k xs + n) (occurs-one k)

pub occurs-push_other : (k j : ℕ) (xs : List ℕ) → (k ≡ j → ⊥) → occurs k (xs ++ j ∷ []) ≡ occurs k xs
occurs-push_other k j xs other = occurs-append k xs (j ∷ []) ∙ (let none : occurs k (j ∷ []) ≡ 0 = occurs-other k j other in omega arith)

-- the first so many weigh at most as much as all
pub weigh-take-le : (h : ℕ → ℕ) (n : ℕ) (xs : List ℕ) → weigh h (take n xs) ≤ weigh h xs
weigh-take-le h n xs = omega (arith, weigh-append h (take n xs) (drop n xs), ap (weigh h) (take-append-drop n xs))

-- what passes a test alone stands among what passes it
pub occurs-fails : (test : ℕ → Bool) (k : ℕ) (xs : List ℕ) → AllByRecursion (λ x. test x ≡ true) xs → test k ≡ false → occurs k xs ≡ 0
occurs-fails test k [] pass fails = refl
occurs-fails test k (x ∷ xs) pass fails =
    let other : k ≡ x → ⊥ = λ (e : k ≡ x). both_ways (test k) fails (subst (λ y. test y ≡ true) (sym e) pass.0) in
    let none : flag (k == x) ≡ 0 = ap flag (ne_eqb k x other) in
    omega (arith, occurs-fails test k xs pass.1 fails)

-- two functions agree on what stands in a list
pub map-occurs : {A : Type 0} (f g : ℕ → A) (xs : List ℕ) → ((k : ℕ) → 0 < occurs k xs → f k ≡ g k) → map f xs ≡ map g xs
map-occurs f g [] same = refl
map-occurs {A} f g (x ∷ xs) same =
    let here : f x ≡ g x = same x (let one : flag (x == x) ≡ 1 = ap flag (eq-eqb x x refl) in omega arith) in
    let behind : map f xs ≡ map g xs = map-occurs f g xs (λ k some. same k (omega arith)) in
    ap (λ y. y ∷ map f xs) here ∙ ap (λ ys. g x ∷ ys) behind

-- a task is a statement of the program
pub is_task-within : (ss : List Statement) (k : ℕ) → is_task (slice_get ss k) ≡ true → k < length ss
is_task-within ss k task = elim (cases_lt k (length ss)) [
  | inl below ↦ below
  | inr past ↦ absurd (both_ways (is_task (slice_get ss k)) (ap is_task (slice_get_past ss k past)) task)
]

module _ (ss : List Statement) (backs : List Back) where
  pub is_ready-within : (k : ℕ) → is_ready ss backs k ≡ true → k < length ss
  is_ready-within k ready = is_task-within ss k ((and_parts (is_task (slice_get ss k)) (list_all (is_back ss backs k) (reads (slice_get ss k))) ready).0)

  until-step : (k m : ℕ) (b : Bool) (xs : List ℕ) → occurs k (if b then xs ++ m ∷ [] else xs) ≡ occurs k xs + (if b then flag (k == m) else 0)
  until-step k m true xs = occurs-append k xs (m ∷ []) ∙ (omega arith)
  until-step k m false xs = omega arith

  past : (m k : ℕ) → m ≤ k → occurs k (ready_until ss backs m) ≡ 0
  past zero k above = refl
  past (suc m) k above =
      until-step k m (is_ready ss backs m) (ready_until ss backs m)
      ∙ ap (λ n. n + (if is_ready ss backs m then flag (k == m) else 0)) (past m k (omega arith))
      ∙ none (is_ready ss backs m) (ne_eqb k m (λ e. omega (arith, e)))
    where
      none : (b : Bool) → (k == m) ≡ false → 0 + (if b then flag (k == m) else 0) ≡ 0
      none true e = let zero_is : flag (k == m) ≡ 0 = ap flag e in omega arith
      none false e = refl

  below : (m k : ℕ) → k < m → occurs k (ready_until ss backs m) ≡ flag (is_ready ss backs k)
  below zero k less = absurd (omega arith)
  below (suc m) k less = elim (cases_eq k m) [
    | inl e ↦
        until-step k m (is_ready ss backs m) (ready_until ss backs m)
        ∙ ap (λ n. n + (if is_ready ss backs m then flag (k == m) else 0)) (past m k (omega (arith, e)))
        ∙ here (is_ready ss backs m) (eq-eqb k m e)
        ∙ ap (λ j. flag (is_ready ss backs j)) (sym e)
    | inr other ↦
        until-step k m (is_ready ss backs m) (ready_until ss backs m)
        ∙ there (is_ready ss backs m) (occurs k (ready_until ss backs m)) (ne_eqb k m other)
        ∙ below m k (omega (arith, other))
  ]
    where
      here : (b : Bool) → (k == m) ≡ true → 0 + (if b then flag (k == m) else 0) ≡ flag b
      here true e = let one : flag (k == m) ≡ 1 = ap flag e in omega arith
      here false e = refl

      there : (b : Bool) (n : ℕ) → (k == m) ≡ false → n + (if b then flag (k == m) else 0) ≡ n
      there true n e = let none : flag (k == m) ≡ 0 = ap flag e in omega arith
      there false n e = omega arith

  -- each statement that is ready stands once among those that are
  pub occurs-ready_until : (k : ℕ) → occurs k (ready_until ss backs (length ss)) ≡ flag (is_ready ss backs k)
  occurs-ready_until k = elim (cases_lt k (length ss)) [
    | inl less ↦ below (length ss) k less
    | inr above ↦ past (length ss) k above ∙ sym (ap flag (false_from_ne_true (is_ready ss backs k) (λ ready. omega (arith, is_ready-within k ready))))
  ]

  -- a list in which each statement that is ready stands once, and no other
  pub Same-ready_until : (xs : List ℕ) → ((k : ℕ) → occurs k xs ≡ flag (is_ready ss backs k)) → Same xs (ready_until ss backs (length ss))
  Same-ready_until xs once = Same-marks (λ (x y : ℕ). x == y) Decides-eqb xs (ready_until ss backs (length ss)) (λ k. once k ∙ sym (occurs-ready_until k))
