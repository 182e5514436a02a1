-- The picks of a deal, by its way.
use Rattle.std.specs.Prelude.{◌≡◌, ◌+◌, ◌%◌, ◌<◌, ◌≤◌, ℕ, zero, suc, List, [], ◌∷◌, ◌++◌, length, replicate, Option, None, Some}
use Rattle.std.specs.List.{AllByRecursion}
use Rattle.std.proofs.Common.{refl, sym, ap, ap₂, ◌∙◌, arith, length-append, mod-lt}
use Rattle.std.proofs.lemmas.List.{map-append}
use Rattle.ff_rec.specs.Fields.{field_at}
use Rattle.ff_rec.specs.Lines.{Rec}
use Rattle.ff_node.specs.Picks.{turns_from, by_key, place_of, hash_from}
use Rattle.ff_unit.specs.declared.dealing.Dealing.{Dealing}
use Rattle.ff_unit.specs.declared.dealing.Dealing.TheVariants.{InTurn, OnDemand, ByKey, GroupsInTurn, GroupsOnDemand}
use Rattle.ff_unit.specs.DealPairLaws.{AllByRecursion-append}

-- each record goes to the first place that has room
abbrev pub IsOnDemand : Dealing → Type 0
IsOnDemand InTurn = ⊥
IsOnDemand OnDemand = Unit {0}
IsOnDemand (ByKey f) = ⊥
IsOnDemand GroupsInTurn = ⊥
IsOnDemand GroupsOnDemand = Unit {0}

-- what the way says of the picks for these records, behind `k` others
abbrev pub ByWay : Dealing → ℕ → ℕ → List ℕ → List Rec → Type 0
ByWay InTurn n k picks xs = picks ≡ turns_from n k (length xs)
ByWay OnDemand n k picks xs = Unit {0}
ByWay (ByKey f) n k picks xs = picks ≡ by_key f n xs
ByWay GroupsInTurn n k picks xs = picks ≡ turns_from n k (length xs)
ByWay GroupsOnDemand n k picks xs = Unit {0}

-- picks of a deal for these records, behind `k` others
pub record IsPicked (way : Dealing) (n k : ℕ) (picks : List ℕ) (xs : List Rec) : Type 0 where
  pub each : length picks ≡ length xs
  pub within : AllByRecursion (λ w. w < n) picks
  pub by_way : ByWay way n k picks xs

turns_from-append : (n k a b : ℕ) → turns_from n k (a + b) ≡ turns_from n k a ++ turns_from n (k + a) b
turns_from-append n k zero b =
    let none : 0 + b ≡ b = omega arith in
    let same : k ≡ k + 0 = omega arith in
    ap (turns_from n k) none ∙ ap (λ i. turns_from n i b) same
turns_from-append n k (suc a) b =
    let more : suc a + b ≡ suc (a + b) = omega arith in
    let next : suc k + a ≡ k + suc a = omega arith in
    ap (turns_from n k) more ∙ ap (λ l. k % n ∷ l) (turns_from-append n (suc k) a b ∙ ap (λ i. turns_from n (suc k) a ++ turns_from n i b) next)

length-turns_from : (n k m : ℕ) → length (turns_from n k m) ≡ m
length-turns_from n k zero = refl
length-turns_from n k (suc m) = ap (λ l. suc l) (length-turns_from n (suc k) m)

turns_from-within : (n k m : ℕ) → 1 ≤ n → AllByRecursion (λ w. w < n) (turns_from n k m)
turns_from-within n k zero some = tt
turns_from-within n k (suc m) some = (mod-lt k some, turns_from-within n (suc k) m some)

-- the place of a key
pub place_of-lt : (o : Option (List ℕ)) (n : ℕ) → 1 ≤ n → place_of o n < n
place_of-lt None n some = omega (arith, some)
place_of-lt (Some bytes) n some = mod-lt (hash_from 0 bytes) some

by_key-within : (f n : ℕ) (xs : List Rec) → 1 ≤ n → AllByRecursion (λ w. w < n) (by_key f n xs)
by_key-within f n [] some = tt
by_key-within f n (x ∷ xs) some = (place_of-lt (field_at f x) n some, by_key-within f n xs some)

length-by_key : (f n : ℕ) (xs : List Rec) → length (by_key f n xs) ≡ length xs
length-by_key f n [] = refl
length-by_key f n (x ∷ xs) = ap (λ l. suc l) (length-by_key f n xs)

firsts-within : (n m : ℕ) → 1 ≤ n → AllByRecursion (λ w. w < n) (replicate m 0)
firsts-within n zero some = tt
firsts-within n (suc m) some = (omega (arith, some), firsts-within n m some)

length-firsts : (m : ℕ) → length (replicate {A = ℕ} m 0) ≡ m
length-firsts zero = refl
length-firsts (suc m) = ap (λ l. suc l) (length-firsts m)

-- some picks for any records
abbrev pub some_picks : Dealing → ℕ → ℕ → List Rec → List ℕ
some_picks InTurn n k xs = turns_from n k (length xs)
some_picks OnDemand n k xs = replicate (length xs) 0
some_picks (ByKey f) n k xs = by_key f n xs
some_picks GroupsInTurn n k xs = turns_from n k (length xs)
some_picks GroupsOnDemand n k xs = replicate (length xs) 0

pub IsPicked-some : (way : Dealing) (n k : ℕ) (xs : List Rec) → 1 ≤ n → IsPicked way n k (some_picks way n k xs) xs
IsPicked-some InTurn n k xs some = record { each = length-turns_from n k (length xs); within = turns_from-within n k (length xs) some; by_way = refl }
IsPicked-some OnDemand n k xs some = record { each = length-firsts (length xs); within = firsts-within n (length xs) some; by_way = tt }
IsPicked-some (ByKey f) n k xs some = record { each = length-by_key f n xs; within = by_key-within f n xs some; by_way = refl }
IsPicked-some GroupsInTurn n k xs some = record { each = length-turns_from n k (length xs); within = turns_from-within n k (length xs) some; by_way = refl }
IsPicked-some GroupsOnDemand n k xs some = record { each = length-firsts (length xs); within = firsts-within n (length xs) some; by_way = tt }

-- records behind others
turns-append : (n : ℕ) (p q : List ℕ) (xs ys : List Rec) → p ≡ turns_from n 0 (length xs) → q ≡ turns_from n (length xs) (length ys) → p ++ q ≡ turns_from n 0 (length (xs ++ ys))
turns-append n p q xs ys a b =
    let none : length xs ≡ 0 + length xs = omega arith in
    ap₂ ◌++◌ a (b ∙ ap (λ i. turns_from n i (length ys)) none)
    ∙ sym (turns_from-append n 0 (length xs) (length ys))
    ∙ ap (turns_from n 0) (sym (length-append xs ys))

ByWay-append : (way : Dealing) (n : ℕ) (p q : List ℕ) (xs ys : List Rec) → ByWay way n 0 p xs → ByWay way n (length xs) q ys → ByWay way n 0 (p ++ q) (xs ++ ys)
ByWay-append InTurn n p q xs ys a b = turns-append n p q xs ys a b
ByWay-append OnDemand n p q xs ys a b = tt
ByWay-append (ByKey f) n p q xs ys a b = ap₂ ◌++◌ a b ∙ sym (map-append (λ x. place_of (field_at f x) n) xs ys)
ByWay-append GroupsInTurn n p q xs ys a b = turns-append n p q xs ys a b
ByWay-append GroupsOnDemand n p q xs ys a b = tt

pub IsPicked-append : (way : Dealing) (n : ℕ) (p q : List ℕ) (xs ys : List Rec) → IsPicked way n 0 p xs → IsPicked way n (length xs) q ys
    → IsPicked way n 0 (p ++ q) (xs ++ ys)
IsPicked-append way n p q xs ys a b = record {
  each = omega (arith, length-append p q, length-append xs ys, a.each, b.each);
  within = AllByRecursion-append (λ w. w < n) p q a.within b.within;
  by_way = ByWay-append way n p q xs ys a.by_way b.by_way;
}

-- the place of one record more
abbrev pub IsPlace : Dealing → ℕ → ℕ → ℕ → Rec → Type 0
IsPlace InTurn n k w x = w ≡ k % n
IsPlace OnDemand n k w x = Unit {0}
IsPlace (ByKey f) n k w x = w ≡ place_of (field_at f x) n
IsPlace GroupsInTurn n k w x = w ≡ k % n
IsPlace GroupsOnDemand n k w x = Unit {0}

ByWay-one : (way : Dealing) (n k w : ℕ) (x : Rec) → IsPlace way n k w x → ByWay way n k (w ∷ []) (x ∷ [])
ByWay-one InTurn n k w x is = ap (λ i. i ∷ []) is
ByWay-one OnDemand n k w x is = tt
ByWay-one (ByKey f) n k w x is = ap (λ i. i ∷ []) is
ByWay-one GroupsInTurn n k w x is = ap (λ i. i ∷ []) is
ByWay-one GroupsOnDemand n k w x is = tt

pub IsPicked-push : (way : Dealing) (n : ℕ) (p : List ℕ) (xs : List Rec) (w : ℕ) (x : Rec) → IsPicked way n 0 p xs → w < n → IsPlace way n (length xs) w x
    → IsPicked way n 0 (p ++ w ∷ []) (xs ++ x ∷ [])
IsPicked-push way n p xs w x are below is =
    IsPicked-append way n p (w ∷ []) xs (x ∷ []) are (record { each = refl; within = (below, tt); by_way = ByWay-one way n (length xs) w x is })
