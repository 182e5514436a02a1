-- How far a write of all bytes has come.
use Rattle.std.proofs.Common.{◌≡◌, ℕ, List, ◌++◌, ◌-◌, length, take, drop, sym, ◌∙◌, ap, append_assoc, take-append-drop, length-drop, arith}
use Rattle.std.proofs.KnownBytes.{Appends-trans}
use Rattle.std.proofs.lemmas.List.{take_all}
use Rattle.std.specs.Prelude.{Option}
use Rattle.std.specs.Io.KnownBytes.{Appends}

-- all bytes but the rest were taken
pub record TookFront (before now : Option (List ℕ)) (bytes rest : List ℕ) : Type 0 where
  pub front : List ℕ
  pub splits : bytes ≡ front ++ rest
  pub appends : Appends before now front

-- all that is left after the first n, as a slice from n on
pub take-drop_whole : (xs : List ℕ) (n : ℕ) → take (length xs - n) (drop n xs) ≡ drop n xs
take-drop_whole xs n = take_all (length xs - n) (drop n xs) (omega (arith, length-drop n xs))

-- a write that took the first n bytes of the rest
pub TookFront-more : (before now after : Option (List ℕ)) (bytes rest : List ℕ) (n : ℕ)
    → TookFront before now bytes rest → Appends now after (take n rest) → TookFront before after bytes (take (length rest - n) (drop n rest))
TookFront-more before now after bytes rest n so_far more = record {
  front = so_far.front ++ take n rest;
  splits = so_far.splits ∙ ap (λ l. so_far.front ++ l) (sym (take-append-drop n rest)) ∙ sym (append_assoc so_far.front (take n rest) (drop n rest))
      ∙ ap (λ l. (so_far.front ++ take n rest) ++ l) (sym (take-drop_whole rest n));
  appends = Appends-trans before now after so_far.front (take n rest) so_far.appends more;
}

pub ruleset front_steps = (TookFront-more)
