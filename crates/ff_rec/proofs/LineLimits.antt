-- The first limit that a line passes, and lines that go on behind it.
use Rattle.std.proofs.Common.{◌≡◌, ℕ, zero, suc, ◌+◌, ◌-◌, ◌<◌, ◌≤◌, ltb, List, [], ◌∷◌, ◌++◌, length, take, min, Option, None, Some, refl, sym, ap, ◌∙◌, subst, arith, lt-ltb, take_all, length-append}
use Rattle.std.proofs.lemmas.Bool.{cond_both, cond-true, cond-false, ltb-true, ltb-false, le-ltb}
use Rattle.ff_rec.specs.declared.fault.LineFault.{LineFault}
use Rattle.ff_rec.specs.declared.fault.LineFault.TheVariants.{TooLong, TooManyFields}
use Rattle.ff_rec.specs.Limits.{IsWithin}
use Rattle.ff_rec.specs.Lines.{tabs}
use Rattle.ff_rec.specs.Pieces.{Lacks}
use Rattle.ff_rec.specs.Reading.{line_fault}
use Rattle.ff_rec.proofs.WeightLaws.{weigh-append}

take-zero : {A : Type 0} (n : ℕ) (ys : List A) → n ≡ 0 → take n ys ≡ []
take-zero n ys e = ap (λ k. take k ys) e

-- the first elements of two lists one after the other
pub take-append : {A : Type 0} (n : ℕ) (xs ys : List A) → take n (xs ++ ys) ≡ take n xs ++ take (n - length xs) ys
take-append zero [] ys = refl
take-append zero (x ∷ xs) ys = sym (take-zero (zero - length (x ∷ xs)) ys (omega arith))
take-append (suc n) [] ys = ap (λ k. take k ys) (let e : suc n ≡ suc n - 0 = omega arith in e)
take-append {A} (suc n) (x ∷ xs) ys =
    ap (λ (l : List A). x ∷ l) (take-append n xs ys)
    ∙ ap (λ k. x ∷ (take n xs ++ take k ys)) (let e : n - length xs ≡ suc n - length (x ∷ xs) = omega arith in e)

-- no more are taken than there are
pub take-min : {A : Type 0} (n : ℕ) (xs : List A) → take (min (length xs) n) xs ≡ take n xs
take-min zero xs = take-zero (min (length xs) zero) xs (omega arith)
take-min (suc n) [] = take-zero (min 0 (suc n)) [] (omega arith)
take-min {A} (suc n) (x ∷ xs) =
    ap (λ k. take k (x ∷ xs)) (let e : min (length (x ∷ xs)) (suc n) ≡ suc (min (length xs) n) = omega arith in e)
    ∙ ap (λ (l : List A). x ∷ l) (take-min n xs)

pub tabs-append : (xs ys : List ℕ) → tabs (xs ++ ys) ≡ tabs xs + tabs ys
tabs-append xs ys = weigh-append _ xs ys

pub tabs-take-append : (n : ℕ) (xs ys : List ℕ) → tabs (take n (xs ++ ys)) ≡ tabs (take n xs) + tabs (take (n - length xs) ys)
tabs-take-append n xs ys = ap tabs (take-append n xs ys) ∙ tabs-append (take n xs) (take (n - length xs) ys)

-- the tabs within the limit of a line that stood there before, and of a part behind it
pub tabs-room : (n : ℕ) (xs ys : List ℕ) → length xs ≤ n → tabs (take n (xs ++ ys)) ≡ tabs xs + tabs (take (min (length ys) (n - length xs)) ys)
tabs-room n xs ys short =
    let all : tabs (take n xs) ≡ tabs xs = ap tabs (take_all n xs short) in
    let room : tabs (take (min (length ys) (n - length xs)) ys) ≡ tabs (take (n - length xs) ys) = ap tabs (take-min (n - length xs) ys) in
    omega (arith, tabs-take-append n xs ys, all, room)

-- the 64th tab stands within the limit
pub line_fault-many : (limit n : ℕ) (line : List ℕ) → 63 < tabs (take limit line) → line_fault limit n line ≡ Some (TooManyFields n)
line_fault-many limit n line many = cond-true _ _ _ (lt-ltb 63 (tabs (take limit line)) many)

-- more bytes than the limit, and no 64th tab within it
pub line_fault-long : (limit n : ℕ) (line : List ℕ) → tabs (take limit line) ≤ 63 → limit < length line → line_fault limit n line ≡ Some (TooLong n)
line_fault-long limit n line few long =
    cond-false _ _ _ (le-ltb 63 (tabs (take limit line)) few) ∙ cond-true _ _ _ (lt-ltb limit (length line) long)

-- neither
pub line_fault-none : (limit n : ℕ) (line : List ℕ) → tabs (take limit line) ≤ 63 → length line ≤ limit → line_fault limit n line ≡ None
line_fault-none limit n line few short =
    cond-false _ _ _ (le-ltb 63 (tabs (take limit line)) few) ∙ cond-false _ _ _ (le-ltb limit (length line) short)

-- these are all cases
pub line_fault-cases : (limit n : ℕ) (line : List ℕ) (P : Option LineFault → Type 0)
    → (63 < tabs (take limit line) → P (Some (TooManyFields n)))
    → (tabs (take limit line) ≤ 63 → limit < length line → P (Some (TooLong n)))
    → (tabs (take limit line) ≤ 63 → length line ≤ limit → P None)
    → P (line_fault limit n line)
line_fault-cases limit n line P many long none =
    cond_both (ltb 63 (tabs (take limit line))) _ _ P (λ e. many (ltb-true 63 (tabs (take limit line)) e))
    (λ e. cond_both (ltb limit (length line)) _ _ P
    (λ g. long (ltb-false 63 (tabs (take limit line)) e) (ltb-true limit (length line) g))
    (λ g. none (ltb-false 63 (tabs (take limit line)) e) (ltb-false limit (length line) g)))

-- a limit that was passed stays the first, whatever bytes follow
pub line_fault-append : (limit n : ℕ) (xs ys : List ℕ) (f : LineFault) → line_fault limit n xs ≡ Some f → line_fault limit n (xs ++ ys) ≡ Some f
line_fault-append limit n xs ys f =
    line_fault-cases limit n xs (λ o. o ≡ Some f → line_fault limit n (xs ++ ys) ≡ Some f)
    (λ many is. line_fault-many limit n (xs ++ ys) (omega (arith, tabs-take-append limit xs ys)) ∙ is)
    (λ few long is. line_fault-long limit n (xs ++ ys) (long_few few long) (long_long long) ∙ is)
    (λ few short is. cc)
  where
    long_few : tabs (take limit xs) ≤ 63 → limit < length xs → tabs (take limit (xs ++ ys)) ≤ 63
    long_few few long =
        let e : tabs (take (limit - length xs) ys) ≡ 0 = ap tabs (take-zero (limit - length xs) ys (omega arith)) in
        omega (arith, tabs-take-append limit xs ys)

    long_long : limit < length xs → limit < length (xs ++ ys)
    long_long long = simp length-append (omega arith)

-- a line that passes none had passed none before
pub line_fault-front : (limit n : ℕ) (xs ys : List ℕ) → line_fault limit n (xs ++ ys) ≡ None → line_fault limit n xs ≡ None
line_fault-front limit n xs ys none = by (line_fault limit n xs) refl
  where
    by : (o : Option LineFault) → line_fault limit n xs ≡ o → o ≡ None
    by None is = refl
    by (Some f) is = let e : line_fault limit n (xs ++ ys) ≡ Some f = line_fault-append limit n xs ys f is in cc

-- a short line with few tabs passes none
pub line_fault-within : (limit n : ℕ) (line : List ℕ) → tabs line ≤ 63 → length line ≤ limit → line_fault limit n line ≡ None
line_fault-within limit n line few short = line_fault-none limit n line (subst (λ l. tabs l ≤ 63) (sym (take_all limit line short)) few) short

-- a fault of a line has its number
pub data IsOfLine (n : ℕ) : LineFault → Type 0 where
  long : IsOfLine n (TooLong n)
  many : IsOfLine n (TooManyFields n)

pub line_fault-number : (limit n : ℕ) (line : List ℕ) (f : LineFault) → line_fault limit n line ≡ Some f → IsOfLine n f
line_fault-number limit n line f =
    line_fault-cases limit n line (λ o. o ≡ Some f → IsOfLine n f)
    (λ h is. subst (IsOfLine n) (some_is is) many) (λ h g is. subst (IsOfLine n) (some_is is) long) (λ h g is. cc)
  where
    some_is : {g h : LineFault} → Some g ≡ Some h → g ≡ h
    some_is e = cc

-- a line that passes none is short and has few tabs
pub IsWithin-none : (limit n : ℕ) (line : List ℕ) → line_fault limit n line ≡ None → IsWithin limit line
IsWithin-none limit n line =
    line_fault-cases limit n line (λ o. o ≡ None → IsWithin limit line) (λ h is. cc) (λ h g is. cc)
    (λ few short is. record { few = subst (λ l. tabs l ≤ 63) (take_all limit line short) few; short = short })

-- bytes behind one another that lack the separator
pub Lacks-append : (sep : ℕ) (xs ys : List ℕ) → Lacks sep xs → Lacks sep ys → Lacks sep (xs ++ ys)
Lacks-append sep [] ys h g = g
Lacks-append sep (x ∷ xs) ys h g = (h.0, Lacks-append sep xs ys h.1 g)
