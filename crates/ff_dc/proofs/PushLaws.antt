-- One number more.
use Rattle.std.proofs.Common.{◌≡◌, ℕ, ◌+◌, ◌<◌, List, [], ◌∷◌, ◌++◌, map, length, take, get_or, ℤ, pos, ◌+ℤ◌, ◌≤ℤ◌, ap, ◌∙◌, arith}
use Rattle.std.proofs.lemmas.Int.{ints, clamps}
use Rattle.std.proofs.lemmas.List.{take_more}
use Rattle.std.proofs.lemmas.List.Sums.{fold_more}
use Rattle.std.specs.Int.{int_max}
use Rattle.ff_dc.specs.Values.{total, suffixes, loose, matched}
use Rattle.ff_dc.proofs.Totals.{total-append}
use Rattle.ff_dc.proofs.Runs.{P, S, M, P-append, S-append, M-append, P-cons, M-cons, greatest-up}

pub total-push : (xs : List ℤ) (x : ℤ) → total (xs ++ x ∷ []) ≡ total xs +ℤ x
total-push xs x = omega (arith, ints, total-append xs (x ∷ []))

pub total-P : (xs : List ℤ) → total xs ≤ℤ P xs
total-P [] = omega (arith, ints, clamps)
total-P (x ∷ xs) = omega (arith, ints, clamps, P-cons x xs, total-P xs)

pub S-M : (xs : List ℤ) → S xs ≤ℤ M xs
S-M [] = omega (arith, ints, clamps)
S-M (x ∷ xs) = omega (arith, ints, clamps, M-cons x xs, S-M xs, total-P (x ∷ xs))

pub P-push : (xs : List ℤ) (x : ℤ) → P (xs ++ x ∷ []) ≡ int_max (P xs) (total xs +ℤ x)
P-push xs x = omega (arith, ints, clamps, P-append xs (x ∷ []), total-P xs)

pub S-push : (xs : List ℤ) (x : ℤ) → S (xs ++ x ∷ []) ≡ int_max (S xs +ℤ x) (pos 0)
S-push xs x = omega (arith, ints, clamps, S-append xs (x ∷ []), greatest-up (map total (suffixes xs)))

pub M-push : (xs : List ℤ) (x : ℤ) → M (xs ++ x ∷ []) ≡ int_max (M xs) (int_max (S xs +ℤ x) (pos 0))
M-push xs x = omega (arith, ints, clamps, M-append xs (x ∷ []), S-M xs, greatest-up (map total (suffixes xs)))

-- the same at a place of a list
module _ (xs : List ℤ) (i : ℕ) (d : ℤ) (h : i < length xs) where
  pub total-more : total (take (i + 1) xs) ≡ total (take i xs) +ℤ get_or xs i d
  total-more = ap total (take_more xs i d h) ∙ total-push (take i xs) (get_or xs i d)

  pub P-more : P (take (i + 1) xs) ≡ int_max (P (take i xs)) (total (take i xs) +ℤ get_or xs i d)
  P-more = ap P (take_more xs i d h) ∙ P-push (take i xs) (get_or xs i d)

  pub S-more : S (take (i + 1) xs) ≡ int_max (S (take i xs) +ℤ get_or xs i d) (pos 0)
  S-more = ap S (take_more xs i d h) ∙ S-push (take i xs) (get_or xs i d)

  pub M-more : M (take (i + 1) xs) ≡ int_max (M (take i xs)) (int_max (S (take i xs) +ℤ get_or xs i d) (pos 0))
  M-more = ap M (take_more xs i d h) ∙ M-push (take i xs) (get_or xs i d)

  pub loose-more : loose (take (i + 1) xs) ≡ matched (loose (take i xs)) (get_or xs i d)
  loose-more = fold_more matched (0, 0) xs i d h
