-- What the ins and the outs of units that stand beside one another weigh together.
use Rattle.std.proofs.Common.{◌≡◌, ℕ, zero, suc, ◌+◌, ◌*◌, List, ◌++◌, refl, ap, arith}
use Rattle.ff_rec.proofs.WeightLaws.{weigh-append}
use Rattle.ff_rec.specs.Weights.{weigh}
use Rattle.ff_net.specs.Tree.{Tree}
use Rattle.ff_plan.specs.declared.kind.UnitKind.{UnitKind}
use Rattle.ff_plan.specs.Laying.{lay_copies, copies, row_deals, column_merges}
use Rattle.ff_plan.specs.Rows.{Laid, range}
use Rattle.ff_plan.proofs.Ranges.{range-cut, columns}

module _ {N : Type 0} (h : ℕ → ℕ) where
  -- what all ins weigh, and what all outs do
  abbrev pub weigh_ins : List (Laid N) → ℕ
  weigh_ins ls = weigh (λ l. weigh h l.row.ins) ls

  abbrev pub weigh_outs : List (Laid N) → ℕ
  weigh_outs ls = weigh (λ l. weigh h l.row.outs) ls

  pub ins-append : (xs ys : List (Laid N)) → weigh_ins (xs ++ ys) ≡ weigh_ins xs + weigh_ins ys
  ins-append xs ys = weigh-append (λ (l : Laid N). weigh h l.row.ins) xs ys

  pub outs-append : (xs ys : List (Laid N)) → weigh_outs (xs ++ ys) ≡ weigh_outs xs + weigh_outs ys
  outs-append xs ys = weigh-append (λ (l : Laid N). weigh h l.row.outs) xs ys

  pub ins-copies : (kind : UnitKind) (at : List ℕ) (t : Tree N) (i o n : ℕ) → weigh_ins (copies kind at t i o n) ≡ weigh h (range i n)
  ins-copies kind at t i o zero = refl
  ins-copies kind at t i o (suc n) = omega (arith, ins-copies kind at t (suc i) (suc o) n)

  pub outs-copies : (kind : UnitKind) (at : List ℕ) (t : Tree N) (i o n : ℕ) → weigh_outs (copies kind at t i o n) ≡ weigh h (range o n)
  outs-copies kind at t i o zero = refl
  outs-copies kind at t i o (suc n) = omega (arith, outs-copies kind at t (suc i) (suc o) n)

  pub ins-row_deals : (kind : UnitKind) (at : List ℕ) (t : Tree N) (m b c n : ℕ) → weigh_ins (row_deals kind at t m b c n) ≡ weigh h (range b n)
  ins-row_deals kind at t m b c zero = refl
  ins-row_deals kind at t m b c (suc n) = omega (arith, ins-row_deals kind at t m (suc b) (c + m) n)

  pub outs-row_deals : (kind : UnitKind) (at : List ℕ) (t : Tree N) (m b c n : ℕ) → weigh_outs (row_deals kind at t m b c n) ≡ weigh h (range c (n * m))
  outs-row_deals kind at t m b c zero =
      let none_left : zero * m ≡ zero = omega arith in
      omega (arith, ap (λ k. weigh h (range c k)) none_left)
  outs-row_deals kind at t m b c (suc n) =
      let many : suc n * m ≡ m + n * m = omega arith in
      omega (arith, outs-row_deals kind at t m (suc b) (c + m) n, range-cut h c (c + m) m (n * m) (suc n * m) many refl)

  pub ins-column_merges : (at : List ℕ) (t : Tree N) (n m c d k : ℕ) → weigh_ins (column_merges at t n m c d k) ≡ columns h n m c k
  ins-column_merges at t n m c d zero = refl
  ins-column_merges at t n m c d (suc k) = omega (arith, ins-column_merges at t n m (suc c) (suc d) k)

  pub outs-column_merges : (at : List ℕ) (t : Tree N) (n m c d k : ℕ) → weigh_outs (column_merges at t n m c d k) ≡ weigh h (range d k)
  outs-column_merges at t n m c d zero = refl
  outs-column_merges at t n m c d (suc k) = omega (arith, outs-column_merges at t n m (suc c) (suc d) k)

  pub ins-lay_copies : (one : ℕ → ℕ → ℕ → List (Laid N)) (width : ℕ) → ((i o e : ℕ) → weigh_ins (one i o e) ≡ h i + weigh h (range e width))
      → (i o e n : ℕ) → weigh_ins (lay_copies one width i o e n) ≡ weigh h (range i n) + weigh h (range e (n * width))
  ins-lay_copies one width each i o e zero =
      let none_left : zero * width ≡ zero = omega arith in
      omega (arith, ap (λ k. weigh h (range e k)) none_left)
  ins-lay_copies one width each i o e (suc n) =
      let many : suc n * width ≡ width + n * width = omega arith in
      omega (
        arith,
        ins-append (one i o e) (lay_copies one width (suc i) (suc o) (e + width) n),
        each i o e,
        ins-lay_copies one width each (suc i) (suc o) (e + width) n,
        range-cut h e (e + width) width (n * width) (suc n * width) many refl,
      )

  pub outs-lay_copies : (one : ℕ → ℕ → ℕ → List (Laid N)) (width : ℕ) → ((i o e : ℕ) → weigh_outs (one i o e) ≡ h o + weigh h (range e width))
      → (i o e n : ℕ) → weigh_outs (lay_copies one width i o e n) ≡ weigh h (range o n) + weigh h (range e (n * width))
  outs-lay_copies one width each i o e zero =
      let none_left : zero * width ≡ zero = omega arith in
      omega (arith, ap (λ k. weigh h (range e k)) none_left)
  outs-lay_copies one width each i o e (suc n) =
      let many : suc n * width ≡ width + n * width = omega arith in
      omega (
        arith,
        outs-append (one i o e) (lay_copies one width (suc i) (suc o) (e + width) n),
        each i o e,
        outs-lay_copies one width each (suc i) (suc o) (e + width) n,
        range-cut h e (e + width) width (n * width) (suc n * width) many refl,
      )
