-- Messages in the order in which they are put, each with its out, and what of them goes to each out.
use Rattle.std.specs.Prelude.{◌≡◌, ◌≢◌, ◌+◌, ◌<◌, ◌≤◌, ◌==◌, if◌then◌else◌, ℕ, zero, suc, Bool, true, false, List, [], ◌∷◌, ◌++◌}
use Rattle.std.specs.List.{AllByRecursion}
use Rattle.std.proofs.Common.{refl, ap, ◌∙◌, ⊎_elim, arith, cond}
use Rattle.std.proofs.lemmas.Bool.{eq-eqb, cases_eq}
use Rattle.std.proofs.lemmas.Bool.Decides.{eqb_tells}
use Rattle.ff_rec.specs.Streams.{IsOpen, IsOpenMsg}
use Rattle.ff_node.specs.Runs.{Message}
use Rattle.ff_unit.specs.Deals.{on_outs}

-- a message with its out
abbrev pub Pair : Type 0
Pair = ℕ × Message

-- what of these messages goes to out `j`
abbrev pub on : ℕ → List Pair → List Message
on j [] = []
on j (pair ∷ pairs) = if pair.0 == j then pair.1 ∷ on j pairs else on j pairs

-- their outs are below `n`, and neither Eos nor Abort is among them
abbrev pub IsInner : ℕ → Pair → Type 0
IsInner n pair = (pair.0 < n) × IsOpenMsg pair.1

abbrev pub AreInner : ℕ → List Pair → Type 0
AreInner n pairs = AllByRecursion (IsInner n) pairs

-- lists one behind the other
pub AllByRecursion-append : {A : Type 0} (P : A → Type 0) (xs ys : List A) → AllByRecursion P xs → AllByRecursion P ys → AllByRecursion P (xs ++ ys)
AllByRecursion-append P [] ys left right = right
AllByRecursion-append P (x ∷ xs) ys left right = (left.0, AllByRecursion-append P xs ys left.1 right)

pub AllByRecursion-front : {A : Type 0} (P : A → Type 0) (xs ys : List A) → AllByRecursion P (xs ++ ys) → AllByRecursion P xs
AllByRecursion-front P [] ys h = tt
AllByRecursion-front P (x ∷ xs) ys h = (h.0, AllByRecursion-front P xs ys h.1)

pub AllByRecursion-back : {A : Type 0} (P : A → Type 0) (xs ys : List A) → AllByRecursion P (xs ++ ys) → AllByRecursion P ys
AllByRecursion-back P [] ys h = h
AllByRecursion-back P (x ∷ xs) ys h = AllByRecursion-back P xs ys h.1

pub on-append : (j : ℕ) (ps qs : List Pair) → on j (ps ++ qs) ≡ on j ps ++ on j qs
on-append j [] qs = refl
on-append j (p ∷ ps) qs = by (p.0 == j) (on-append j ps qs)
  where
    by : (e : Bool) → on j (ps ++ qs) ≡ on j ps ++ on j qs → cond e (p.1 ∷ on j (ps ++ qs)) (on j (ps ++ qs)) ≡ cond e (p.1 ∷ on j ps) (on j ps) ++ on j qs
    by true rest = ap (λ l. p.1 ∷ l) rest
    by false rest = rest

-- one message, on its own out and on another
pub on-own : (k j : ℕ) (m : Message) (pairs : List Pair) → k ≡ j → on j ((k, m) ∷ pairs) ≡ m ∷ on j pairs
on-own k j m pairs e = ap (λ b. cond b (m ∷ on j pairs) (on j pairs)) (eq-eqb k j e)

pub on-other : (k j : ℕ) (m : Message) (pairs : List Pair) → k ≢ j → on j ((k, m) ∷ pairs) ≡ on j pairs
on-other k j m pairs e = ⊎_elim (λ (h : ((k == j) ≡ true) × (k ≡ j)). absurd (e h.1)) (λ (h : ((k == j) ≡ false) × (k ≢ j)). ap (λ b. cond b (m ∷ on j pairs) (on j pairs)) h.0) (eqb_tells k j)

pub IsOpen-on : (n j : ℕ) (pairs : List Pair) → AreInner n pairs → IsOpen (on j pairs)
IsOpen-on n j [] h = tt
IsOpen-on n j (pair ∷ pairs) h = by (pair.0 == j) (IsOpen-on n j pairs h.1)
  where
    by : (e : Bool) → IsOpen (on j pairs) → IsOpen (cond e (pair.1 ∷ on j pairs) (on j pairs))
    by true rest = (h.0.1, rest)
    by false rest = rest

-- a message on every out: those before the first and behind the last have none, the others one
pub on-on_outs-before : (j i n : ℕ) (m : Message) → j < i → on j (on_outs i n m) ≡ []
on-on_outs-before j i zero m below = refl
on-on_outs-before j i (suc n) m below = on-other i j m (on_outs (suc i) n m) (λ e. omega arith) ∙ on-on_outs-before j (suc i) n m (omega arith)

pub on-on_outs-behind : (j i n : ℕ) (m : Message) → i + n ≤ j → on j (on_outs i n m) ≡ []
on-on_outs-behind j i zero m behind = refl
on-on_outs-behind j i (suc n) m behind = on-other i j m (on_outs (suc i) n m) (λ e. omega arith) ∙ on-on_outs-behind j (suc i) n m (omega arith)

pub on-on_outs : (j i n : ℕ) (m : Message) → i ≤ j → j < i + n → on j (on_outs i n m) ≡ m ∷ []
on-on_outs j i zero m from below = absurd (omega arith)
on-on_outs j i (suc n) m from below =
    ⊎_elim (λ (e : i ≡ j). on-own i j m (on_outs (suc i) n m) e ∙ ap (λ l. m ∷ l) (on-on_outs-before j (suc i) n m (omega arith)))
    (λ (e : i ≡ j → ⊥). let other : i ≢ j = e in on-other i j m (on_outs (suc i) n m) e ∙ on-on_outs j (suc i) n m (omega arith) (omega arith))
    (cases_eq i j)

pub on_outs-append : (i k l : ℕ) (m : Message) → on_outs i (k + l) m ≡ on_outs i k m ++ on_outs (i + k) l m
on_outs-append i zero l m = let none : i ≡ i + 0 = omega arith in ap (λ n. on_outs i n m) (zero_plus l) ∙ ap (λ n. on_outs n l m) none
  where
    zero_plus : (n : ℕ) → 0 + n ≡ n
    zero_plus n = omega arith
on_outs-append i (suc k) l m =
    let more : suc k + l ≡ suc (k + l) = omega arith in
    let next : suc i + k ≡ i + suc k = omega arith in
    ap (λ n. on_outs i n m) more ∙ ap (λ ps. (i, m) ∷ ps) (on_outs-append (suc i) k l m ∙ ap (λ n. on_outs (suc i) k m ++ on_outs n l m) next)
