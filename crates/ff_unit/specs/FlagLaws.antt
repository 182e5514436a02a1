-- Laws of the flags that say which ins still give.
use Rattle.std.specs.Prelude.{◌≡◌, ◌<◌, ◌≤◌, ℕ, zero, suc, Bool, true, false, List, [], ◌∷◌, length, slice_index_or}
use Rattle.std.proofs.Common.{refl, sym, arith}
use Rattle.std.proofs.lemmas.Bool.{false≢true}
use Rattle.std.proofs.lemmas.List.{length-replicate}
use Rattle.ff_unit.specs.Closing.{IsLive, any_live, all_live, none_live}

-- a live in is one of them
pub IsLive-within : (live : List Bool) (k : ℕ) → IsLive live k → k < length live
IsLive-within [] k h = absurd (false≢true h)
IsLive-within (l ∷ live) zero h = omega arith
IsLive-within (l ∷ live) (suc k) h = let rest = IsLive-within live k h in omega (arith, rest)

-- where one is live, some is
pub any_live-at : (live : List Bool) (k : ℕ) → IsLive live k → any_live live ≡ true
any_live-at [] k h = absurd (false≢true h)
any_live-at (true ∷ live) k h = refl
any_live-at (false ∷ live) zero h = absurd (false≢true h)
any_live-at (false ∷ live) (suc k) h = any_live-at live k h

-- where each is closed, none is live
pub any_live-closed : (live : List Bool) → ((k : ℕ) → k < length live → slice_index_or live k false ≡ false) → any_live live ≡ false
any_live-closed [] h = refl
any_live-closed (true ∷ live) h = absurd (false≢true (sym (h 0 (omega arith))))
any_live-closed (false ∷ live) h = any_live-closed live (λ k below. h (suc k) (omega (arith, below)))

-- where none is live, each is closed
pub live-none : (live : List Bool) (k : ℕ) → any_live live ≡ false → slice_index_or live k false ≡ false
live-none [] k h = refl
live-none (true ∷ live) k h = absurd (false≢true (sym h))
live-none (false ∷ live) zero h = refl
live-none (false ∷ live) (suc k) h = live-none live k h

-- all of some are live, and none of none_live is
pub any_live-all : (n : ℕ) → 1 ≤ n → any_live (all_live n) ≡ true
any_live-all zero h = absurd (omega (arith, h))
any_live-all (suc n) h = refl

pub any_live-none : (n : ℕ) → any_live (none_live n) ≡ false
any_live-none zero = refl
any_live-none (suc n) = any_live-none n

pub length-all_live : (n : ℕ) → length (all_live n) ≡ n
length-all_live n = length-replicate n true

pub length-none_live : (n : ℕ) → length (none_live n) ≡ n
length-none_live n = length-replicate n false
