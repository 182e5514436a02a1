-- How often the edges of a plan stand at its ends: once each.
use Rattle.std.proofs.Common.{◌≡◌, ◌≤◌, ◌<◌, ℕ, zero, suc, ◌+◌, List, [], ◌∷◌, map, flat_map, refl, inl, inr, arith}
use Rattle.std.proofs.lemmas.Bool.{cases_eq, cases_lt}
use Rattle.std.specs.List.{All}
use Rattle.ff_rec.specs.Weights.{weigh, Same}
use Rattle.ff_rec.proofs.WeightLaws.{weigh-append}
use Rattle.ff_node.specs.Behaviour.{Behaviour}
use Rattle.ff_net.specs.Counts.{edges, inner_edges}
use Rattle.ff_net.specs.Good.{Good}
use Rattle.ff_net.specs.Tree.{Tree}
use Rattle.ff_plan.specs.Laying.{units_of}
use Rattle.ff_plan.specs.Plans.{rows_of}
use Rattle.ff_plan.specs.Rows.{Row, Laid, range}
use Rattle.ff_plan.proofs.Ranges.{range-cut}
use Rattle.ff_plan.proofs.WeighedIns.{ins-lay}
use Rattle.ff_plan.proofs.WeighedOuts.{outs-lay}
use Rattle.ff_engine.specs.Lines.{IsWired}
use Rattle.ff_engine.proofs.SlotLaws.{is, times, is-same, is-other, All-below}

-- a number stands in a range once where it is in it, and else not
times-range-before : (e k n : ℕ) → e < k → times e (range k n) ≡ 0
times-range-before e k zero low = refl
times-range-before e k (suc n) low =
    omega (arith, is-other e k (λ same. absurd (omega (arith, low, same))), times-range-before e (suc k) n (omega (arith, low)))

times-range : (e k n : ℕ) → k ≤ e → e < k + n → times e (range k n) ≡ 1
times-range e k zero from to = absurd (omega (arith, from, to))
times-range e k (suc n) from to = elim (cases_eq k e) [
  | inl same ↦ omega (arith, is-same e k same, times-range-before e (suc k) n (omega (arith, same)))
  | inr other ↦ omega (arith, is-other e k other, times-range e (suc k) n (after other) (omega (arith, to)))
]
  where
    after : (k ≡ e → ⊥) → suc k ≤ e
    after other = elim (cases_lt k e) [
      | inl low ↦ omega (arith, low)
      | inr high ↦ absurd (other (omega (arith, from, high)))
    ]

times-range-behind : (e k n : ℕ) → k + n ≤ e → times e (range k n) ≡ 0
times-range-behind e k zero high = refl
times-range-behind e k (suc n) high =
    omega (arith, is-other e k (λ same. absurd (omega (arith, high, same))), times-range-behind e (suc k) n (omega (arith, high)))

-- lists in which each of `n` edges stands once
module _ (ks : List ℕ) (n : ℕ) (all : Same ks (range 0 n)) where
  pub once-wired : (e : ℕ) → times e ks ≤ 1
  once-wired e = elim (cases_lt e n) [
    | inl low ↦ omega (arith, all.by (is e), times-range e 0 n (omega arith) (omega (arith, low)))
    | inr high ↦ omega (arith, all.by (is e), times-range-behind e 0 n (omega (arith, high)))
  ]

  pub some-wired : (e : ℕ) → e < n → 1 ≤ times e ks
  some-wired e low = omega (arith, all.by (is e), times-range e 0 n (omega arith) (omega (arith, low)))

  pub below-wired : (e : ℕ) → 1 ≤ times e ks → e < n
  below-wired e some = elim (cases_lt e n) [
    | inl low ↦ low
    | inr high ↦ absurd (omega (arith, some, all.by (is e), times-range-behind e 0 n (omega (arith, high))))
  ]

  pub within-wired : All (λ e. e < n) ks
  within-wired = All-below n ks (λ e high. omega (arith, all.by (is e), times-range-behind e 0 n (omega (arith, high))))

-- what the ends of all rows weigh together
weigh-flat : {N : Type 0} (h : ℕ → ℕ) (side : Row → List ℕ) (ls : List (Laid N))
    → weigh h (flat_map side (map (λ (l : Laid N). l.row) ls)) ≡ weigh (λ (l : Laid N). weigh h (side l.row)) ls
weigh-flat h side [] = refl
weigh-flat {N} h side (l ∷ ls) =
    omega (arith, weigh-append h (side l.row) (flat_map side (map (λ (k : Laid N). k.row) ls)), weigh-flat h side ls)

-- the plan of a network that keeps the rules is wired
pub IsWired-plan : {N : Type 0} (b : Behaviour N) (t : Tree N) → Good b t → IsWired (rows_of t) (edges t)
IsWired-plan {N} b t good = record {
  reads = record { by = λ h. omega (arith, weigh-flat h (λ row. row.ins) (units_of t), ins-lay h b t good [] 0 1 2, all_edges h) };
  writes = record { by = λ h. omega (arith, weigh-flat h (λ row. row.outs) (units_of t), outs-lay h b t good [] 0 1 2, all_edges h) };
}
  where
    all_edges : (h : ℕ → ℕ) → weigh h (range 0 (edges t)) ≡ h 0 + (h 1 + weigh h (range 2 (inner_edges t)))
    all_edges h =
        let many : edges t ≡ 2 + inner_edges t = omega arith in
        let two : weigh h (range 0 2) ≡ h 0 + h 1 = omega arith in
        omega (arith, range-cut h 0 2 2 (inner_edges t) (edges t) many refl, two)
