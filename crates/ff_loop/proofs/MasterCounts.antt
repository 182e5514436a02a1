-- A log has as many numbers as tasks, and as answers.
use Rattle.std.proofs.Common.{◌≡◌, ℕ, ◌==◌, if◌then◌else◌, Bool, true, false, List, [], ◌∷◌, length, refl, arith, length-append}
use Rattle.ff_loop.specs.Moves.{Move, Fed, Gave, Got, asked, answered, numbers_to, numbers_from}

-- one element or none, as often as another
pub length-if : {A B : Type 0} (x : A) (y : B) (c : Bool) → length (if c then x ∷ [] else []) ≡ length (if c then y ∷ [] else [])
length-if x y true = refl
length-if x y false = refl

-- as many numbers as tasks, and as answers
pub numbers_to-length : {T A : Type 0} (j : ℕ) (log : List (Move T A)) → length (numbers_to j log) ≡ length (asked j log)
numbers_to-length j [] = refl
numbers_to-length j (Fed t ∷ log) = numbers_to-length j log
numbers_to-length j (Gave w id t ∷ log) = omega (
  arith,
  numbers_to-length j log,
  length-append (numbers_to j log) (if w == j then id ∷ [] else []),
  length-append (asked j log) (if w == j then t ∷ [] else []),
  length-if id t (w == j),
)
numbers_to-length j (Got w id a ∷ log) = numbers_to-length j log

pub numbers_from-length : {T A : Type 0} (j : ℕ) (log : List (Move T A)) → length (numbers_from j log) ≡ length (answered j log)
numbers_from-length j [] = refl
numbers_from-length j (Fed t ∷ log) = numbers_from-length j log
numbers_from-length j (Gave w id t ∷ log) = numbers_from-length j log
numbers_from-length j (Got w id a ∷ log) = omega (
  arith,
  numbers_from-length j log,
  length-append (numbers_from j log) (if w == j then id ∷ [] else []),
  length-append (answered j log) (if w == j then a ∷ [] else []),
  length-if id a (w == j),
)
