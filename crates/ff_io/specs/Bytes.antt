-- What a call does to the bytes that a sink took, where these are known.
use Rattle.std.specs.Prelude.{◌≡◌, ℕ, zero, suc, Bool, true, false, List, ◌++◌, Option, Result, Ok, Err}
use Rattle.std.specs.Io.KnownBytes.{Appends}

-- the first of these bytes were taken, and no others
pub record AppendsPrefix (before now : Option (List ℕ)) (bytes : List ℕ) : Type 0 where
  pub front : List ℕ
  pub back : List ℕ
  pub splits : bytes ≡ front ++ back
  pub appends : Appends before now front

-- whether a read answered the end of input
abbrev pub is_end : {E : Type 0} → Result ℕ E → Bool
is_end (Ok zero) = true
is_end (Ok (suc n)) = false
is_end (Err e) = false
