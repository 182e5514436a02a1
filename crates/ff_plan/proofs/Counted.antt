-- What a network passes on inside it: for the same records as much, and on Plain networks so much for each record.
use Rattle.std.proofs.Common.{◌≡◌, ℕ, ◌+◌, ◌*◌, false, List, [], ◌∷◌, length, refl, sym, ap, ◌∙◌, arith}
use native.Mathlib.Nat.{mul-add}
use Rattle.std.proofs.lemmas.Bool.{true≢false, or_parts}
use Rattle.ff_rec.specs.Lines.{Rec}
use Rattle.ff_rec.specs.Weights.{weigh, Same}
use Rattle.ff_rec.proofs.WeightLaws.{weigh-one, weigh-flat_map, Same-length}
use Rattle.ff_node.specs.Behaviour.{Behaviour}
use Rattle.ff_node.specs.OnLists.{PlainGoesByRecords, UnorderedGoesByCounts}
use Rattle.ff_net.specs.Forms.{has_wrap, any_wrap}
use Rattle.ff_net.specs.Good.{ArePlain, EachPlain, Steady, SteadyParts}
use Rattle.ff_net.specs.Meaning.{mean}
use Rattle.ff_net.specs.Tree.{Tree, Trees, Leaf, Pipe, Comb, Farm, OFarm, A2a, Wrap, none, more}
use Rattle.ff_plan.proofs.MeanPlain.{GoesByEach, plain_goes_by_each}
use Rattle.ff_plan.proofs.MeanSame.{mean_steady}
use Rattle.ff_plan.specs.Traffic.{parts_of, passes, passes_through}

-- the same records, another order
module _ {N : Type 0} (b : Behaviour N) (law : UnorderedGoesByCounts b) (m : ℕ) where
  mutual
    pub passes_steady : (t : Tree N) → Steady b t → (xs ys : List Rec) → Same xs ys → passes b m t xs ≡ passes b m t ys
    passes_steady (Leaf o) steady xs ys same = refl
    passes_steady (Comb ts) steady xs ys same = refl
    passes_steady (Wrap n w p) steady xs ys same = refl
    passes_steady (Pipe ts) steady xs ys same = passes_through_steady ts steady xs ys same
    passes_steady (Farm n s w) steady xs ys same =
        omega (arith, passes_steady w steady xs ys same, Same-length same, Same-length (mean_steady b law m w steady xs ys same))
    passes_steady (OFarm n s w) steady xs ys same =
        omega (
          arith,
          passes_steady w steady xs ys same,
          Same-length same,
          Same-length (mean_steady b law m w steady xs ys same),
          ap (λ k. (parts_of w + 1) * k) (Same-length same),
        )
    passes_steady (A2a n l r k t) steady xs ys same =
        let first = mean_steady b law m l steady.0 xs ys same in
        omega (arith, Same-length same, Same-length first, Same-length (mean_steady b law m t steady.1 (mean b m l xs) (mean b m l ys) first))

    pub passes_through_steady : (ts : Trees N) → SteadyParts b ts → (xs ys : List Rec) → Same xs ys → passes_through b m ts xs ≡ passes_through b m ts ys
    passes_through_steady none steady xs ys same = refl
    passes_through_steady (more t none) steady xs ys same = passes_steady t steady.0 xs ys same
    passes_through_steady (more t (more u us)) steady xs ys same =
        let first = mean_steady b law m t steady.0 xs ys same in
        omega (
          arith,
          passes_steady t steady.0 xs ys same,
          Same-length first,
          passes_through_steady (more u us) steady.1 (mean b m t xs) (mean b m t ys) first,
        )

-- so much for each record
pub record IsCounted (f : List Rec → ℕ) : Type 0 where
  pub cost : Rec → ℕ
  pub is : (xs : List Rec) → f xs ≡ weigh cost xs

weigh-zero : (xs : List Rec) → weigh (λ x. 0) xs ≡ 0
weigh-zero [] = refl
weigh-zero (x ∷ xs) = omega (arith, weigh-zero xs)

weigh-plus : (f g : Rec → ℕ) (xs : List Rec) → weigh (λ x. f x + g x) xs ≡ weigh f xs + weigh g xs
weigh-plus f g [] = refl
weigh-plus f g (x ∷ xs) = omega (arith, weigh-plus f g xs)

weigh-times : (k : ℕ) (f : Rec → ℕ) (xs : List Rec) → weigh (λ x. k * f x) xs ≡ k * weigh f xs
weigh-times k f [] = omega arith
weigh-times k f (x ∷ xs) = omega (arith, weigh-times k f xs, mul-add k (f x) (weigh f xs))

counted-none : IsCounted (λ xs. 0)
counted-none = record { cost = λ x. 0; is = λ xs. sym (weigh-zero xs) }

counted-plus : (f g : List Rec → ℕ) → IsCounted f → IsCounted g → IsCounted (λ xs. f xs + g xs)
counted-plus f g a b = record { cost = λ x. a.cost x + b.cost x; is = λ xs. omega (arith, a.is xs, b.is xs, weigh-plus a.cost b.cost xs) }

pub counted-times : (k : ℕ) (f : List Rec → ℕ) → IsCounted f → IsCounted (λ xs. k * f xs)
counted-times k f a = record { cost = λ x. k * a.cost x; is = λ xs. ap (λ c. k * c) (a.is xs) ∙ sym (weigh-times k a.cost xs) }

pub counted-length : IsCounted (λ xs. length xs)
counted-length = record { cost = λ x. 1; is = λ xs. sym (weigh-one xs) }

-- of what is sent for the records
counted-sent : (send reject : List Rec → List Rec) → GoesByEach send reject → (f : List Rec → ℕ) → IsCounted f → IsCounted (λ xs. f (send xs))
counted-sent send reject goes f a = record {
  cost = λ x. weigh a.cost (goes.sent x);
  is = λ xs. a.is (send xs) ∙ ap (weigh a.cost) (goes.sends xs) ∙ weigh-flat_map a.cost goes.sent xs;
}

module _ {N : Type 0} (b : Behaviour N) (law : PlainGoesByRecords b) (m : ℕ) where
  pub length_counted : (t : Tree N) → ArePlain b t → has_wrap t ≡ false → IsCounted (λ xs. length (mean b m t xs))
  length_counted t plain free = counted-sent (mean b m t) _ (plain_goes_by_each b law m t plain free) (λ xs. length xs) counted-length

  mutual
    pub passes_counted : (t : Tree N) → ArePlain b t → has_wrap t ≡ false → IsCounted (passes b m t)
    passes_counted (Leaf o) plain free = counted-none
    passes_counted (Comb ts) plain free = counted-none
    passes_counted (Wrap n w p) plain free = absurd (true≢false free)
    passes_counted (Pipe ts) plain free = through_counted ts plain free
    passes_counted (Farm n s w) plain free =
        counted-plus (λ xs. passes b m w xs + length xs) (λ xs. length (mean b m w xs))
        (counted-plus (passes b m w) (λ xs. length xs) (passes_counted w plain free) counted-length) (length_counted w plain free)
    passes_counted (OFarm n s w) plain free =
        counted-plus (λ xs. passes b m w xs + length xs + length (mean b m w xs)) (λ xs. (parts_of w + 1) * length xs)
        (counted-plus (λ xs. passes b m w xs + length xs) (λ xs. length (mean b m w xs))
        (counted-plus (passes b m w) (λ xs. length xs) (passes_counted w plain free) counted-length) (length_counted w plain free))
        (counted-times (parts_of w + 1) (λ xs. length xs) counted-length)
    passes_counted (A2a n l r k t) plain free =
        let parts = or_parts (has_wrap l) (has_wrap t) free in
        counted-plus (λ xs. length xs + 3 * length (mean b m l xs)) (λ xs. length (mean b m t (mean b m l xs)))
        (counted-plus (λ xs. length xs) (λ xs. 3 * length (mean b m l xs)) counted-length
        (counted-times 3 (λ xs. length (mean b m l xs)) (length_counted l plain.0 parts.0)))
        (counted-sent (mean b m l) _ (plain_goes_by_each b law m l plain.0 parts.0) (λ ys. length (mean b m t ys)) (length_counted t plain.1 parts.1))

    through_counted : (ts : Trees N) → EachPlain b ts → any_wrap ts ≡ false → IsCounted (passes_through b m ts)
    through_counted none plain free = counted-none
    through_counted (more t none) plain free = passes_counted t plain.0 (or_parts (has_wrap t) false free).0
    through_counted (more t (more u us)) plain free =
        let parts = or_parts (has_wrap t) (any_wrap (more u us)) free in
        counted-plus (λ xs. passes b m t xs + length (mean b m t xs)) (λ xs. passes_through b m (more u us) (mean b m t xs))
        (counted-plus (passes b m t) (λ xs. length (mean b m t xs)) (passes_counted t plain.0 parts.0) (length_counted t plain.0 parts.0))
        (counted-sent (mean b m t) _ (plain_goes_by_each b law m t plain.0 parts.0) (passes_through b m (more u us)) (through_counted (more u us) plain.1 parts.1))
