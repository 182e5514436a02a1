-- Bands of units between some edges and others.
use Rattle.std.proofs.Common.{◌≡◌, ℕ, zero, suc, ◌+◌, ◌<◌, List, [], ◌∷◌, ◌++◌, subst, arith}
use Rattle.std.specs.List.{AllByRecursion}
use Rattle.ff_plan.specs.Rows.{range}
use Rattle.ff_plan.specs.Rows.{Laid}
use Rattle.ff_sweeps.proofs.Moments.{Moment, Dry, Closed, Passes, AllEnded}

module _ {A : Type 0} (P : A → Type 0) where
  pub all-append : (xs ys : List A) → AllByRecursion P xs → AllByRecursion P ys → AllByRecursion P (xs ++ ys)
  all-append [] ys left right = right
  all-append (x ∷ xs) ys left right = (left.0, all-append xs ys left.1 right)

  pub all-front : (xs ys : List A) → AllByRecursion P (xs ++ ys) → AllByRecursion P xs
  all-front [] ys all = tt
  all-front (x ∷ xs) ys all = (all.0, all-front xs ys all.1)

  pub all-back : (xs ys : List A) → AllByRecursion P (xs ++ ys) → AllByRecursion P ys
  all-back [] ys all = all
  all-back (x ∷ xs) ys all = all-back xs ys all.1

-- on a range, by numbers
module _ (P : ℕ → Type 0) where
  pub all-at : (e n : ℕ) → AllByRecursion P (range e n) → (j : ℕ) → j < n → P (e + j)
  all-at e zero all j below = absurd (omega (arith, below))
  all-at e (suc n) all zero below =
      let same : e ≡ e + 0 = omega arith in
      subst P same all.0
  all-at e (suc n) all (suc j) below =
      let same : suc e + j ≡ e + suc j = omega arith in
      subst P same (all-at (suc e) n all.1 j (omega (arith, below)))

  pub all-each : (e n : ℕ) → ((j : ℕ) → j < n → P (e + j)) → AllByRecursion P (range e n)
  all-each e zero each = tt
  all-each e (suc n) each =
      let first : e + 0 ≡ e = omega arith in
      let rest : (j : ℕ) → e + suc j ≡ suc e + j = λ j. omega arith in (
        subst P first (each 0 (omega arith)),
        all-each (suc e) n (λ j below. subst P (rest j) (each (suc j) (omega (arith, below)))),
      )

module _ (v : Moment) where
  -- one band behind another
  pub behind : (ins mids outs : List ℕ) (A B : Type 0) → Passes v ins mids A → Passes v mids outs B → Passes v ins outs (A × B)
  behind ins mids outs A B first second dry =
      let after = second dry in
      let before = first after.dry in
      record {
        dry = before.dry;
        ends = λ closed.
            let here = before.ends closed in
            let there = after.ends here.0 in
            (there.0, (here.1, there.1));
      }

  -- one band beside another
  pub beside : (ins outs ins' outs' : List ℕ) (A B : Type 0) → Passes v ins outs A → Passes v ins' outs' B → Passes v (ins ++ ins') (outs ++ outs') (A × B)
  beside ins outs ins' outs' A B left right dry =
      let first = left (all-front (Dry v) outs outs' dry) in
      let second = right (all-back (Dry v) outs outs' dry) in
      record {
        dry = all-append (Dry v) ins ins' first.dry second.dry;
        ends = λ closed.
            let here = first.ends (all-front (Closed v) ins ins' closed) in
            let there = second.ends (all-back (Closed v) ins ins' closed) in
            (all-append (Closed v) outs outs' here.0 there.0, (here.1, there.1));
      }

  -- what they have ended by
  pub ended_as : (ins outs : List ℕ) (A B : Type 0) → (A → B) → Passes v ins outs A → Passes v ins outs B
  ended_as ins outs A B to passes dry =
      let passed = passes dry in
      record {
        dry = passed.dry;
        ends = λ closed. let both = passed.ends closed in (both.0, to both.1);
      }

  -- no units
  pub nothing : Passes v [] [] (Unit {0})
  nothing dry = record { dry = tt; ends = λ closed. (tt, tt) }

  module _ {N : Type 0} where
    pub both_ended : (ls ks : List (Laid N)) → AllEnded v ls × AllEnded v ks → AllEnded v (ls ++ ks)
    both_ended ls ks both = all-append (λ (l : Laid N). v.Ended l.row) ls ks both.0 both.1
