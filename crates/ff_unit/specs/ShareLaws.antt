-- Laws of the shares of places.
use Rattle.std.proofs.Common.{◌≡◌, ℕ, zero, suc, ◌+◌, ◌<◌, ◌≤◌, ◌==◌, Bool, true, false, cond, List, [], ◌∷◌, ◌++◌, length, get_or, replicate, refl, sym, ap, ◌∙◌, arith, length-append, append-nil, eq-eqb, ne_eqb}
use Rattle.std.specs.List.{AllByRecursion}
use Rattle.std.proofs.lemmas.List.{length-replicate}
use Rattle.ff_node.specs.Picks.{ArePicks, share}

-- lists one behind the other
pub share-append : {A : Type 0} (picks qs : List ℕ) (xs zs : List A) (j : ℕ) → length picks ≡ length xs → share (picks ++ qs) (xs ++ zs) j ≡ share picks xs j ++ share qs zs j
share-append [] qs [] zs j e = refl
share-append [] qs (x ∷ xs) zs j e = absurd (omega (arith, e))
share-append (w ∷ picks) qs [] zs j e = absurd (omega (arith, e))
share-append (w ∷ picks) qs (x ∷ xs) zs j e = by (w == j) (share-append picks qs xs zs j (omega (arith, e)))
  where
    by : (c : Bool) → share (picks ++ qs) (xs ++ zs) j ≡ share picks xs j ++ share qs zs j
        → cond c (x ∷ share (picks ++ qs) (xs ++ zs) j) (share (picks ++ qs) (xs ++ zs) j) ≡ cond c (x ∷ share picks xs j) (share picks xs j) ++ share qs zs j
    by true rest = ap (λ l. x ∷ l) rest
    by false rest = rest

pub within-append : (n : ℕ) (ps qs : List ℕ) → AllByRecursion (λ w. w < n) ps → AllByRecursion (λ w. w < n) qs → AllByRecursion (λ w. w < n) (ps ++ qs)
within-append n [] qs left right = right
within-append n (p ∷ ps) qs left right = (left.0, within-append n ps qs left.1 right)

pub ArePicks-append : {A : Type 0} (n : ℕ) (picks qs : List ℕ) (xs zs : List A) → ArePicks n picks xs → ArePicks n qs zs → ArePicks n (picks ++ qs) (xs ++ zs)
ArePicks-append n picks qs xs zs left right = record {
  each = omega (arith, left.each, right.each, length-append picks qs, length-append xs zs);
  within = within-append n picks qs left.within right.within;
}

-- one element more, at the place that it is picked for and at others
pub share-push : {A : Type 0} (picks : List ℕ) (xs : List A) (k : ℕ) (x : A) → length picks ≡ length xs → share (picks ++ k ∷ []) (xs ++ x ∷ []) k ≡ share picks xs k ++ x ∷ []
share-push picks xs k x e = share-append picks (k ∷ []) xs (x ∷ []) k e ∙ ap (λ c. share picks xs k ++ cond c (x ∷ []) []) (eq-eqb k k refl)

pub share-push_other : {A : Type 0} (picks : List ℕ) (xs : List A) (k j : ℕ) (x : A) → length picks ≡ length xs → (j ≡ k → ⊥) → share (picks ++ k ∷ []) (xs ++ x ∷ []) j ≡ share picks xs j
share-push_other picks xs k j x e other =
    share-append picks (k ∷ []) xs (x ∷ []) j e ∙ ap (λ c. share picks xs j ++ cond c (x ∷ []) []) (ne_eqb k j (λ same. other (sym same))) ∙ append-nil (share picks xs j)

-- whole lists one behind the other, the first of them picked for place `k`, the next for the place after it, and so on
abbrev pub joined : {A : Type 0} → List (List A) → List A
joined [] = []
joined (r ∷ rs) = r ++ joined rs

abbrev pub blocks : {A : Type 0} → ℕ → List (List A) → List ℕ
blocks k [] = []
blocks k (r ∷ rs) = replicate (length r) k ++ blocks (suc k) rs

within-replicate : (n k m : ℕ) → k < n → AllByRecursion (λ w. w < n) (replicate m k)
within-replicate n k zero below = tt
within-replicate n k (suc m) below = (below, within-replicate n k m below)

pub ArePicks-blocks : {A : Type 0} (n k : ℕ) (rs : List (List A)) → k + length rs ≤ n → ArePicks n (blocks k rs) (joined rs)
ArePicks-blocks n k [] few = record { each = refl; within = tt }
ArePicks-blocks n k (r ∷ rs) few =
    let here : k < n = omega (arith, few) in
    let next : suc k + length rs ≤ n = omega (arith, few) in
    ArePicks-append n (replicate (length r) k) (blocks (suc k) rs) r (joined rs)
    (record { each = length-replicate (length r) k; within = within-replicate n k (length r) here }) (ArePicks-blocks n (suc k) rs next)

-- a place has just its list of them
share-replicate : {A : Type 0} (k : ℕ) (r : List A) (j : ℕ) (c : Bool) → (k == j) ≡ c → share (replicate (length r) k) r j ≡ cond c r []
share-replicate k [] j true e = refl
share-replicate k [] j false e = refl
share-replicate k (x ∷ r) j true e =
    ap (λ c. cond c (x ∷ share (replicate (length r) k) r j) (share (replicate (length r) k) r j)) e ∙ ap (λ l. x ∷ l) (share-replicate k r j true e)
share-replicate k (x ∷ r) j false e =
    ap (λ c. cond c (x ∷ share (replicate (length r) k) r j) (share (replicate (length r) k) r j)) e ∙ share-replicate k r j false e

share-first : {A : Type 0} (k : ℕ) (r : List A) (rs : List (List A)) (j : ℕ) (c : Bool) → (k == j) ≡ c
    → share (blocks k (r ∷ rs)) (joined (r ∷ rs)) j ≡ cond c r [] ++ share (blocks (suc k) rs) (joined rs) j
share-first k r rs j c e =
    share-append (replicate (length r) k) (blocks (suc k) rs) r (joined rs) j (length-replicate (length r) k)
    ∙ ap (λ l. l ++ share (blocks (suc k) rs) (joined rs) j) (share-replicate k r j c e)

share-blocks_before : {A : Type 0} (k : ℕ) (rs : List (List A)) (j : ℕ) → j < k → share (blocks k rs) (joined rs) j ≡ []
share-blocks_before k [] j before = refl
share-blocks_before k (r ∷ rs) j before =
    let next : j < suc k = omega (arith, before) in
    share-first k r rs j false (ne_eqb k j (λ same. omega (arith, same, before))) ∙ share-blocks_before (suc k) rs j next

pub share-blocks : {A : Type 0} (k : ℕ) (rs : List (List A)) (i j : ℕ) → k + i ≡ j → share (blocks k rs) (joined rs) j ≡ get_or rs i []
share-blocks k [] i j e = refl
share-blocks k (r ∷ rs) zero j e =
    let here : k ≡ j = omega (arith, e) in
    let next : j < suc k = omega (arith, here) in
    share-first k r rs j true (eq-eqb k j here) ∙ ap (λ l. r ++ l) (share-blocks_before (suc k) rs j next) ∙ append-nil r
share-blocks k (r ∷ rs) (suc i) j e =
    let on : suc k + i ≡ j = omega (arith, e) in
    share-first k r rs j false (ne_eqb k j (λ same. omega (arith, same, e))) ∙ share-blocks (suc k) rs i j on
