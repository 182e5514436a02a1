-- Which of several places each element of a list goes to. One list of picks serves every deal and every merge.
use Rattle.std.specs.Prelude.{◌≡◌, ℕ, zero, suc, ◌+◌, ◌*◌, ◌^◌, ◌%◌, ◌<◌, ◌==◌, if◌then◌else◌, List, [], ◌∷◌, map, length, Option, None, Some}
use Rattle.std.specs.List.{AllByRecursion}
use Rattle.ff_rec.specs.Fields.{field_at}
use Rattle.ff_rec.specs.Lines.{Rec}

-- as many picks as elements, each of them one of `n` places
pub record ArePicks {A : Type 0} (n : ℕ) (picks : List ℕ) (xs : List A) : Type 0 where
  pub each : length picks ≡ length xs
  pub within : AllByRecursion (λ w. w < n) picks

-- the elements that are picked for place `j`, in their order
abbrev pub share : {A : Type 0} → List ℕ → List A → ℕ → List A
share [] xs j = []
share (w ∷ picks) [] j = []
share (w ∷ picks) (x ∷ xs) j = if w == j then x ∷ share picks xs j else share picks xs j

-- round robin, from place number `k` on
abbrev pub turns_from : ℕ → ℕ → ℕ → List ℕ
turns_from n k zero = []
turns_from n k (suc m) = (k % n) ∷ turns_from n (suc k) m

-- round robin over so many elements
abbrev pub turns : ℕ → ℕ → List ℕ
turns n m = turns_from n 0 m

-- the hash of bytes that a key goes by, from a hash so far
abbrev pub hash_from : ℕ → List ℕ → ℕ
hash_from h [] = h
hash_from h (c ∷ cs) = hash_from ((h * 31 + c) % 2 ^ 32) cs

-- the place of a key
abbrev pub key_place : List ℕ → ℕ → ℕ
key_place bytes n = hash_from 0 bytes % n

-- the place of what a field holds, and place 0 where it isn't there
abbrev pub place_of : Option (List ℕ) → ℕ → ℕ
place_of None n = 0
place_of (Some bytes) n = key_place bytes n

-- each record goes to the place of what field `f` holds
abbrev pub by_key : ℕ → ℕ → List Rec → List ℕ
by_key f n xs = map (λ x. place_of (field_at f x) n) xs
