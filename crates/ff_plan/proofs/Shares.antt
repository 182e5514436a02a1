-- Lists that are dealt to places by picks, and what the shares of all places are together.
use Rattle.std.proofs.Common.{◌≡◌, ℕ, ◌+◌, ◌<◌, ◌≤◌, ◌==◌, Bool, true, false, cond, List, [], ◌∷◌, ◌++◌, map, length, filter, Option, None, Some, refl, sym, ap, ap₂, ◌∙◌, arith, mod-lt}
use Rattle.std.proofs.lemmas.Bool.{eq-eqb}
use Rattle.std.proofs.Math.Path.{fun_ext}
use Rattle.std.specs.List.{flat_map}
use Rattle.ff_rec.specs.Fields.{field_at}
use Rattle.ff_rec.specs.Lines.{Rec}
use Rattle.ff_rec.specs.Weights.{weigh, Same}
use Rattle.ff_rec.proofs.WeightLaws.{weigh-flat_map}
use Rattle.ff_node.specs.Fits.{first_group, without_first, gather, picked}
use Rattle.ff_node.specs.Picks.{ArePicks, share, by_key, place_of, hash_from}
pub use Rattle.ff_plan.proofs.Totals.{total}
use Rattle.ff_plan.proofs.Totals.{total-same, total-zero, total-plus, total-one}

-- the picks of all but the first element
ArePicks-rest : {A : Type 0} {n w : ℕ} {p : List ℕ} {x : A} {xs : List A} → ArePicks n (w ∷ p) (x ∷ xs) → ArePicks n p xs
ArePicks-rest {A} {n} {w} {p} {x} {xs} are = record { each = omega (arith, are.each); within = are.within.1 }

-- what a place's share weighs with one element more
weigh-share : {A : Type 0} (h : A → ℕ) (w : ℕ) (p : List ℕ) (x : A) (xs : List A) (j : ℕ)
    → weigh h (share (w ∷ p) (x ∷ xs) j) ≡ cond (w == j) (h x) 0 + weigh h (share p xs j)
weigh-share h w p x xs j = by (w == j)
  where
    by : (e : Bool) → weigh h (cond e (x ∷ share p xs j) (share p xs j)) ≡ cond e (h x) 0 + weigh h (share p xs j)
    by true = refl
    by false = omega arith

-- the shares weigh together what the list does
pub total-weigh-share : {A : Type 0} {n : ℕ} {p : List ℕ} {xs : List A} → ArePicks n p xs → (h : A → ℕ) → total n (λ j. weigh h (share p xs j)) ≡ weigh h xs
total-weigh-share {A} {n} {p = []} {xs = []} are h = total-zero n
total-weigh-share {A} {n} {p = []} {xs = x ∷ xs} are h = absurd (omega (arith, are.each))
total-weigh-share {A} {n} {p = w ∷ p} {xs = []} are h = absurd (omega (arith, are.each))
total-weigh-share {A} {n} {p = w ∷ p} {xs = x ∷ xs} are h =
    total-same n (λ j. weigh h (share (w ∷ p) (x ∷ xs) j)) (λ j. cond (w == j) (h x) 0 + weigh h (share p xs j)) (λ j below. weigh-share h w p x xs j)
    ∙ total-plus n (λ j. cond (w == j) (h x) 0) (λ j. weigh h (share p xs j))
    ∙ ap₂ ◌+◌ (total-one n w (h x) are.within.0) (total-weigh-share (ArePicks-rest are) h)

-- what a function makes of a list is what it makes of each element, but for the order
pub record Additive {A B : Type 0} (f : List A → List B) : Type 0 where
  pub each : A → List B
  pub is : (xs : List A) → Same (f xs) (flat_map each xs)

-- what it makes of the shares weighs together what it makes of the list
pub total-weigh-additive : {A B : Type 0} {n : ℕ} {p : List ℕ} {xs : List A} (f : List A → List B) → Additive f → ArePicks n p xs → (h : B → ℕ)
    → total n (λ j. weigh h (f (share p xs j))) ≡ weigh h (f xs)
total-weigh-additive {A} {B} {n} {p} {xs} f additive are h =
    let made : (ys : List A) → weigh h (f ys) ≡ weigh (λ x. weigh h (additive.each x)) ys = λ ys. (additive.is ys).by h ∙ weigh-flat_map h additive.each ys in
    total-same n (λ j. weigh h (f (share p xs j))) (λ j. weigh (λ x. weigh h (additive.each x)) (share p xs j)) (λ j below. made (share p xs j))
    ∙ total-weigh-share are (λ x. weigh h (additive.each x))
    ∙ sym (made xs)

-- a list whose shares weigh together what another list does
pub same_of_totals : {A : Type 0} {n : ℕ} {q : List ℕ} {ys : List A} (us : ℕ → List A) (vs : List A)
    → ArePicks n q ys → ((j : ℕ) → j < n → Same (us j) (share q ys j)) → ((h : A → ℕ) → total n (λ j. weigh h (us j)) ≡ weigh h vs) → Same vs ys
same_of_totals {A} {n} {q} {ys} us vs merged shares together = record {
  by = λ h.
      sym (together h)
      ∙ total-same n (λ j. weigh h (us j)) (λ j. weigh h (share q ys j)) (λ j below. (shares j below).by h)
      ∙ total-weigh-share merged h;
}

-- a list each of whose shares is what is made of a share is what is made of the whole
pub same_of_shares : {A B : Type 0} {n : ℕ} {p q : List ℕ} {xs : List A} {ys : List B} (f : List A → List B)
    → ArePicks n p xs → ArePicks n q ys → ((j : ℕ) → j < n → Same (f (share p xs j)) (share q ys j)) → Additive f → Same (f xs) ys
same_of_shares {A} {B} {n} {p} {q} {xs} {ys} f dealt merged shares additive =
    same_of_totals (λ j. f (share p xs j)) (f xs) merged shares (total-weigh-additive f additive dealt)

-- the places of keys
pub place_of-lt : (o : Option (List ℕ)) (n : ℕ) → 1 ≤ n → place_of o n < n
place_of-lt None n some = omega (arith, some)
place_of-lt (Some bytes) n some = mod-lt (hash_from 0 bytes) some

-- a place's share of a list that is dealt by key
pub share-by_key : (f n : ℕ) (xs : List Rec) (j : ℕ) → share (by_key f n xs) xs j ≡ filter (λ x. place_of (field_at f x) n == j) xs
share-by_key f n [] j = refl
share-by_key f n (x ∷ xs) j = ap (λ (rest : List Rec). cond (place_of (field_at f x) n == j) (x ∷ rest) rest) (share-by_key f n xs j)

-- as many elements as the place is picked
pub picked-share : {A : Type 0} {n : ℕ} {p : List ℕ} {xs : List A} → ArePicks n p xs → (j : ℕ) → j < n → length (share p xs j) ≡ picked p j
picked-share {A} {n} {p = []} {xs = []} are j below = refl
picked-share {A} {n} {p = []} {xs = x ∷ xs} are j below = refl
picked-share {A} {n} {p = w ∷ p} {xs = []} are j below = absurd (omega (arith, are.each))
picked-share {A} {n} {p = w ∷ p} {xs = x ∷ xs} are j below = by (w == j) (picked-share (ArePicks-rest are) j below)
  where
    by : (e : Bool) → length (share p xs j) ≡ picked p j → length (cond e (x ∷ share p xs j) (share p xs j)) ≡ cond e 1 0 + picked p j
    by true rest = omega (arith, rest)
    by false rest = omega (arith, rest)

-- the groups of one element each, without that of the first element
without_first-share : (f : Rec → List Rec) (w : ℕ) (p : List ℕ) (x : Rec) (xs : List Rec) (j : ℕ)
    → without_first (λ k. map f (share (w ∷ p) (x ∷ xs) k)) w j ≡ map f (share p xs j)
without_first-share f w p x xs j = by (w == j) refl
  where
    by : (e : Bool) → (w == j) ≡ e → without_first (λ k. map f (share (w ∷ p) (x ∷ xs) k)) w j ≡ map f (share p xs j)
    by true is = rw is refl
    by false is = rw is refl

-- what is made of each element, gathered in the order of the picks
pub gather-share : {n : ℕ} {p : List ℕ} {xs : List Rec} (f : Rec → List Rec) → ArePicks n p xs → gather p (λ j. map f (share p xs j)) ≡ flat_map f xs
gather-share {n} {p = []} {xs = []} f are = refl
gather-share {n} {p = []} {xs = x ∷ xs} f are = absurd (omega (arith, are.each))
gather-share {n} {p = w ∷ p} {xs = []} f are = absurd (omega (arith, are.each))
gather-share {n} {p = w ∷ p} {xs = x ∷ xs} f are =
    ap₂ ◌++◌ (ap (λ (e : Bool). first_group (map f (cond e (x ∷ share p xs w) (share p xs w)))) (eq-eqb w w refl))
    (ap (gather p) (fun_ext (without_first-share f w p x xs)) ∙ gather-share f (ArePicks-rest are))
