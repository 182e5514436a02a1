-- What is kept by number, each in a slot of its own.
use Rattle.std.specs.Prelude.{◌≡◌, ℕ, List, [], ◌∷◌, Option, None, Some, slice_index_or, slice_set}

-- what is kept at this number
abbrev pub slot : {A : Type 0} → List (Option A) → ℕ → Option A
slot slots e = slice_index_or slots e None

-- what is kept at these numbers, as one after another is taken out
abbrev pub taken_out : {A : Type 0} → List ℕ → List (Option A) → List (Option A)
taken_out [] slots = []
taken_out (e ∷ es) slots = slot slots e ∷ taken_out es (slice_set slots e None)

-- and what is left then
abbrev pub emptied : {A : Type 0} → List ℕ → List (Option A) → List (Option A)
emptied [] slots = slots
emptied (e ∷ es) slots = emptied es (slice_set slots e None)

-- something is kept at each of these numbers, also after those before it were taken out
abbrev pub Holds : {A : Type 0} → List ℕ → List (Option A) → Type 0
Holds [] slots = Unit {0}
Holds {A} (e ∷ es) slots = ((a : A) × (slot slots e ≡ Some a)) × Holds es (slice_set slots e None)

-- what is kept once these were put at these numbers
abbrev pub placed : {A : Type 0} → List ℕ → List A → List (Option A) → List (Option A)
placed [] xs slots = slots
placed (e ∷ es) [] slots = placed es [] (slice_set slots e None)
placed (e ∷ es) (x ∷ xs) slots = placed es xs (slice_set slots e (Some x))

-- the same for several lists, one after another: `has` gives what is put at the numbers that `at` gives
abbrev pub placed_all : {J A : Type 0} → (J → List ℕ) → (J → List A) → List J → List (Option A) → List (Option A)
placed_all at has [] slots = slots
placed_all at has (j ∷ js) slots = placed_all at has js (placed (at j) (has j) slots)

-- what is kept is so, by its number
abbrev pub EachKept : {A : Type 0} → (ℕ → A → Type 0) → List (Option A) → Type 0
EachKept {A} P slots = (e : ℕ) (a : A) → slot slots e ≡ Some a → P e a
