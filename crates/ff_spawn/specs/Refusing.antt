-- A spawner that refuses chosen starts.
use Rattle.std.specs.Prelude.{◌≡◌, ℕ, ◌==◌, Bool, List}
use Rattle.std.specs.List.{list_any}
use Rattle.ff_rec.specs.Counts.{more}

-- the spawner behind it, the numbers of the starts that it refuses, and how many it was asked for
pub record Refusing (S : Type 0) : Type 0 where
  pub inner : S
  pub refuse : List ℕ
  pub asked : ℕ

-- nothing was asked for yet
abbrev pub opened : {S : Type 0} → S → List ℕ → Refusing S
opened inner refuse = record { inner = inner; refuse = refuse; asked = 0 }

-- whether the next start is one that it refuses
abbrev pub refuses_next : List ℕ → ℕ → Bool
refuses_next refuse asked = list_any (λ k. k == more asked) refuse

-- one more start was asked for, and those that are refused stay
abbrev pub Asked : {S : Type 0} → Refusing S → Refusing S → Type 0
Asked before now = (now.asked ≡ more before.asked) × (now.refuse ≡ before.refuse)
