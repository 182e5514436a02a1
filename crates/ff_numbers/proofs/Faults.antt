-- What is wrong first with records behind others.
use Rattle.std.proofs.Common.{◌≡◌, ℕ, suc, ◌+◌, ◌<◌, ◌≤◌, cond, List, [], ◌∷◌, ◌++◌, length, map, Option, None, Some, is_none, refl, ap, ◌∙◌, arith, ℤ}
use Rattle.std.proofs.lemmas.Bool.{lt-leb}
use Rattle.ff_rec.specs.Lines.{Rec}
use Rattle.ff_numbers.specs.Data.{data_fault, fault_at, lone_number, or_later}
use Rattle.ff_numbers.specs.declared.fault.InputFault.{InputFault}
use Rattle.ff_numbers.specs.declared.fault.InputFault.TheVariants.{NotNumber, TooMany}
use Rattle.ff_numbers.specs.declared.fault.TheConstants.{MOST_NUMBERS}

-- behind records with which nothing is wrong, the others count on
pub data_fault-behind : (n : ℕ) (xs ys : List Rec) → data_fault n xs ≡ None → data_fault n (xs ++ ys) ≡ data_fault (n + length xs) ys
data_fault-behind n [] ys fine = let same : n ≡ n + 0 = omega arith in ap (λ k. data_fault k ys) same
data_fault-behind n (x ∷ xs) ys fine = by (fault_at n x) fine (data_fault-behind (suc n) xs ys)
  where
    by : (here : Option InputFault) → or_later here (data_fault (suc n) xs) ≡ None
        → (data_fault (suc n) xs ≡ None → data_fault (suc n) (xs ++ ys) ≡ data_fault (suc n + length xs) ys)
        → or_later here (data_fault (suc n) (xs ++ ys)) ≡ data_fault (n + suc (length xs)) ys
    by None rest behind =
        let same : suc n + length xs ≡ n + suc (length xs) = omega arith in
        behind rest ∙ ap (λ k. data_fault k ys) same
    by (Some fault) rest behind = absurd (cc)

-- what is wrong with the first of them is so with all
pub data_fault-front : (n : ℕ) (xs ys : List Rec) (fault : InputFault) → data_fault n xs ≡ Some fault → data_fault n (xs ++ ys) ≡ Some fault
data_fault-front n [] ys fault is = absurd (cc)
data_fault-front n (x ∷ xs) ys fault is = by (fault_at n x) is (data_fault-front (suc n) xs ys fault)
  where
    by : (here : Option InputFault) → or_later here (data_fault (suc n) xs) ≡ Some fault
        → (data_fault (suc n) xs ≡ Some fault → data_fault (suc n) (xs ++ ys) ≡ Some fault)
        → or_later here (data_fault (suc n) (xs ++ ys)) ≡ Some fault
    by None rest front = front rest
    by (Some first) rest front = rest

-- a number that is not one too many
fault_at-number : (n : ℕ) (x : Rec) (m : ℤ) → lone_number x ≡ Some m → n < MOST_NUMBERS → fault_at n x ≡ None
fault_at-number n x m is few =
    ap (λ b. cond b (Some TooMany) (cond (is_none (lone_number x)) (Some (NotNumber (suc n))) None)) (lt-leb MOST_NUMBERS n few)
    ∙ ap (λ o. cond (is_none o) (Some (NotNumber (suc n))) None) is

-- nothing is wrong with records that are these numbers, and not too many
pub data_fault-numbers : (n : ℕ) (xs : List Rec) (ms : List ℤ) → map lone_number xs ≡ map Some ms → n + length ms ≤ MOST_NUMBERS → data_fault n xs ≡ None
data_fault-numbers n [] ms are few = refl
data_fault-numbers n (x ∷ xs) [] are few = absurd (omega (arith, ap length are))
data_fault-numbers n (x ∷ xs) (m ∷ ms) are few =
    let here : n < MOST_NUMBERS = omega (arith, few) in
    let first : lone_number x ≡ Some m = ap (λ (l : List (Option ℤ)). head_or l) are in
    ap (λ f. or_later f (data_fault (suc n) xs)) (fault_at-number n x m first here)
    ∙ data_fault-numbers (suc n) xs ms (ap (λ (l : List (Option ℤ)). rest_of l) are) (omega (arith, few))
  where
    head_or : List (Option ℤ) → Option ℤ
    head_or [] = None
    head_or (o ∷ os) = o

    rest_of : List (Option ℤ) → List (Option ℤ)
    rest_of [] = []
    rest_of (o ∷ os) = os
