-- Runs of bytes of one class, and the byte behind them.
use Rattle.std.proofs.Common.{◌≡◌, ℕ, ◌+◌, ◌<◌, ◌≤◌, Bool, true, false, List, [], ◌∷◌, ◌++◌, length, refl, ap, ◌∙◌, arith, one-add}
use Rattle.std.proofs.lemmas.Bool.{cond-true, cond-false, and_parts, or_from, ne_eqb, leb-true}
use Rattle.std.specs.List.{prefix_len, list_all}
use Rattle.std.specs.Char.{is_ascii_lowercase, is_ascii_digit}
use Rattle.std.specs.Str.{all_ascii_digits}
use Rattle.ff_text.specs.Classes.{is_blank}

-- whether the first byte passes a test
abbrev pub is_front : (ℕ → Bool) → List ℕ → Bool
is_front p [] = false
is_front p (b ∷ bs) = p b

-- a run ends in front of a byte that isn't of its class
prefix_len-front : (p : ℕ → Bool) (rest : List ℕ) → is_front p rest ≡ false → prefix_len p rest ≡ 0
prefix_len-front p [] ends = refl
prefix_len-front p (b ∷ bs) ends = cond-false (p b) (1 + prefix_len p bs) 0 ends

pub prefix_len-run : (p : ℕ → Bool) (xs rest : List ℕ) → list_all p xs ≡ true → is_front p rest ≡ false → prefix_len p (xs ++ rest) ≡ length xs
prefix_len-run p [] rest all ends = prefix_len-front p rest ends
prefix_len-run p (x ∷ xs) rest all ends =
    let both = and_parts (p x) (list_all p xs) all in
    cond-true (p x) (1 + prefix_len p (xs ++ rest)) 0 both.0 ∙ ap (λ n. 1 + n) (prefix_len-run p xs rest both.1 ends) ∙ one-add (length xs)

-- small letters and digits as numbers
pub lowercase-range : (b : ℕ) → is_ascii_lowercase b ≡ true → (97 ≤ b) × (b ≤ 122)
lowercase-range b e = let both = and_parts _ _ e in (leb-true _ _ both.0, leb-true _ _ both.1)

pub digit-range : (b : ℕ) → is_ascii_digit b ≡ true → (48 ≤ b) × (b ≤ 57)
digit-range b e = let both = and_parts _ _ e in (leb-true _ _ both.0, leb-true _ _ both.1)

-- what lies behind the blanks is none
pub is_blank-above : (b : ℕ) → 32 < b → is_blank b ≡ false
is_blank-above b above =
    or_from _ _ (or_from _ _ (or_from _ _ (ne_eqb b 32 (λ e. omega arith)) (ne_eqb b 9 (λ e. omega arith))) (ne_eqb b 10 (λ e. omega arith))) (ne_eqb b 13 (λ e. omega arith))

-- std's word for digits
pub list_all-digits : (ds : List ℕ) → all_ascii_digits ds ≡ true → list_all is_ascii_digit ds ≡ true
list_all-digits [] e = refl
list_all-digits (d ∷ ds) e = let both = and_parts (is_ascii_digit d) (all_ascii_digits ds) e in rw (both.0) (list_all-digits ds both.1)
