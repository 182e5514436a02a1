-- How often tasks, answers and ids stand for one number.
use Rattle.std.proofs.Common.{◌≡◌, ℕ, ◌+◌, ◌<◌, ◌≤◌, ◌⊎◌, inl, inr, cond, ◌==◌, List, [], ◌∷◌, ◌++◌, Option, Some, None, ℤ, refl, ◌∙◌, sym, arith}
use Rattle.std.proofs.lemmas.Bool.{cases_eq, cases_order, cases_lt, cond-true, cond-false, eq-eqb, ne_eqb}
use Rattle.ff_rec.specs.Weights.{weigh}
use Rattle.ff_rec.proofs.WeightLaws.{weigh-append}
use Rattle.ff_dc.specs.Divisions.{Division, Whole, Cut, part_count, Answers, Has}
use Rattle.ff_dc_tasks.specs.declared.task.DcTask.{DcTask}
use Rattle.ff_dc_tasks.specs.Tasks.{number_of, value_in, combines, tasks_from}

-- 1 where the second number is the first, else 0
abbrev pub hit : ℕ → ℕ → ℕ
hit n m = cond (m == n) 1 0

pub hit-same : (n m : ℕ) → m ≡ n → hit n m ≡ 1
hit-same n m same = cond-true (m == n) 1 0 (eq-eqb m n same)

pub hit-apart : (n m : ℕ) → (m ≡ n → ⊥) → hit n m ≡ 0
hit-apart n m apart = cond-false (m == n) 1 0 (ne_eqb m n apart)

pub hit-most : (n m : ℕ) → hit n m ≤ 1
hit-most n m = elim (cases_eq m n) [
  | inl e ↦ omega (arith, hit-same n m e)
  | inr e ↦ omega (arith, hit-apart n m e)
]

-- how many of the tasks are for the part with this number
abbrev pub for_number : ℕ → List DcTask → ℕ
for_number n ts = weigh (λ t. hit n (number_of t)) ts

for_number-combines : (n k : ℕ) (v w : Option (List ℤ)) → for_number n (combines k v w) ≤ hit n k
for_number-combines n k None w = omega arith
for_number-combines n k (Some v) None = omega arith
for_number-combines n k (Some v) (Some w) = omega arith

weigh-three : {A : Type 0} (h : A → ℕ) (xs ys zs : List A) → weigh h (xs ++ ys ++ zs) ≡ weigh h xs + weigh h ys + weigh h zs
weigh-three h xs ys zs = omega (arith, weigh-append h (xs ++ ys) zs, weigh-append h xs ys)

-- the tasks of a division, in three
pub weigh-cut : (h : DcTask → ℕ) (k : ℕ) (l r : Division) (done : Answers)
    → weigh h (tasks_from (k + 1) l done ++ tasks_from (k + 1 + part_count l) r done
    ++ combines k (value_in done (k + 1)) (value_in done (k + 1 + part_count l)))
    ≡ weigh h (tasks_from (k + 1) l done) + weigh h (tasks_from (k + 1 + part_count l) r done)
    + weigh h (combines k (value_in done (k + 1)) (value_in done (k + 1 + part_count l)))
weigh-cut h k l r done = weigh-three h (tasks_from (k + 1) l done) (tasks_from (k + 1 + part_count l) r done)
    (combines k (value_in done (k + 1)) (value_in done (k + 1 + part_count l)))

-- no task is for a number that stands outside
for_number-outside : (n k : ℕ) (d : Division) (done : Answers) → ((n < k) ⊎ (k + part_count d ≤ n)) → for_number n (tasks_from k d done) ≡ 0
for_number-outside n k (Whole p) done out = omega (
  arith,
  hit-apart n k (λ e. elim out [
    | inl h ↦ omega (arith, e, h)
    | inr h ↦ omega (arith, e, h)
  ]),
)
for_number-outside n k (Cut p l r) done out =
    let apart : k ≡ n → ⊥ = λ e. elim out [
      | inl h ↦ omega (arith, e, h)
      | inr h ↦ omega (arith, e, h)
    ] in
    let left : (n < k + 1) ⊎ (k + 1 + part_count l ≤ n) = elim out [
      | inl h ↦ inl (omega (arith, h))
      | inr h ↦ inr (omega (arith, h))
    ] in
    let right : (n < k + 1 + part_count l) ⊎ (k + 1 + part_count l + part_count r ≤ n) = elim out [
      | inl h ↦ inl (omega (arith, h))
      | inr h ↦ inr (omega (arith, h))
    ] in
    omega (
      arith,
      weigh-cut (λ t. hit n (number_of t)) k l r done,
      for_number-outside n (k + 1) l done left,
      for_number-outside n (k + 1 + part_count l) r done right,
      for_number-combines n k (value_in done (k + 1)) (value_in done (k + 1 + part_count l)),
      hit-apart n k apart,
    )

-- each part has at most one task
pub for_number-once : (n k : ℕ) (d : Division) (done : Answers) → for_number n (tasks_from k d done) ≤ 1
for_number-once n k (Whole p) done = omega (arith, hit-most n k)
for_number-once n k (Cut p l r) done =
    let three = weigh-cut (λ t. hit n (number_of t)) k l r done in
    let both = for_number-combines n k (value_in done (k + 1)) (value_in done (k + 1 + part_count l)) in
    elim (cases_order n k) [
      | inl e ↦ omega (
        arith,
        three,
        both,
        hit-most n k,
        for_number-outside n (k + 1) l done (inl (omega (arith, e))),
        for_number-outside n (k + 1 + part_count l) r done (inl (omega (arith, e))),
      )
      | inr o ↦ elim (cases_lt n (k + 1 + part_count l)) [
        | inl low ↦
            let apart : k ≡ n → ⊥ = λ e. elim o [
              | inl h ↦ omega (arith, e, h)
              | inr h ↦ omega (arith, e, h)
            ] in
            omega (arith, three, both, hit-apart n k apart, for_number-once n (k + 1) l done, for_number-outside n (k + 1 + part_count l) r done (inl low))
        | inr high ↦ omega (
          arith,
          three,
          both,
          hit-apart n k (λ e. omega (arith, e, high)),
          for_number-outside n (k + 1) l done (inr high),
          for_number-once n (k + 1 + part_count l) r done,
        )
      ]
    ]

combines-few : (k : ℕ) (v w : Option (List ℤ)) → weigh (λ _. 1) (combines k v w) ≤ 1
combines-few k None w = omega arith
combines-few k (Some v) None = omega arith
combines-few k (Some v) (Some w) = omega arith

-- there are no more tasks than parts
pub tasks_from-few : (k : ℕ) (d : Division) (done : Answers) → weigh (λ _. 1) (tasks_from k d done) ≤ part_count d
tasks_from-few k (Whole p) done = omega arith
tasks_from-few k (Cut p l r) done = omega (
  arith,
  weigh-cut (λ _. 1) k l r done,
  tasks_from-few (k + 1) l done,
  tasks_from-few (k + 1 + part_count l) r done,
  combines-few k (value_in done (k + 1)) (value_in done (k + 1 + part_count l)),
)

-- how many of the answers are those of this number
abbrev pub of_number : ℕ → Answers → ℕ
of_number n done = weigh (λ x. hit n x.0) done

pub value_in-other : (done : Answers) (m n : ℕ) (a : List ℤ) → (m ≡ n → ⊥) → value_in ((m, a) ∷ done) n ≡ value_in done n
value_in-other done m n a apart = cond-false (m == n) (Some a) (value_in done n) (ne_eqb m n apart)

pub value_in-last : (done : Answers) (m n : ℕ) (a : List ℤ) → m ≡ n → value_in ((m, a) ∷ done) n ≡ Some a
value_in-last done m n a same = cond-true (m == n) (Some a) (value_in done n) (eq-eqb m n same)

pub value_in-none : (done : Answers) (n : ℕ) → of_number n done ≡ 0 → value_in done n ≡ None
value_in-none [] n none = refl
value_in-none (x ∷ done) n none =
    value_in-other done x.0 n x.1 (λ e. omega (arith, none, hit-same n x.0 e)) ∙ value_in-none done n (omega (arith, none))

pub value_in-some : (done : Answers) (n : ℕ) → 1 ≤ of_number n done → (v : List ℤ) × (value_in done n ≡ Some v)
value_in-some [] n some = absurd (omega (arith, some))
value_in-some (x ∷ done) n some = elim (cases_eq x.0 n) [
  | inl e ↦ (x.1, value_in-last done x.0 n x.1 e)
  | inr apart ↦
      let rest : (v : List ℤ) × (value_in done n ≡ Some v) = value_in-some done n (omega (arith, some, hit-apart n x.0 apart)) in
      (rest.0, value_in-other done x.0 n x.1 apart ∙ rest.1)
]

-- values that are found were answered
pub Has-value_in : (done : Answers) (n : ℕ) (v : List ℤ) → value_in done n ≡ Some v → Has done n v
Has-value_in [] n v found = absurd (let e : ◌≡◌ {A = Option (List ℤ)} None (Some v) = found in cc)
Has-value_in (x ∷ done) n v found = elim (cases_eq x.0 n) [
  | inl e ↦ inl (e, let s : Some x.1 ≡ Some v = sym (value_in-last done x.0 n x.1 e) ∙ found in cc)
  | inr apart ↦ inr (Has-value_in done n v (sym (value_in-other done x.0 n x.1 apart) ∙ found))
]
