-- How much the levels of records that go round weigh.
use Rattle.std.proofs.Common.{◌≡◌, ℕ, zero, suc, ◌+◌, ◌<◌, ◌≤◌, Bool, not, List, [], ◌∷◌, length, filter, refl, sym, ap, ◌∙◌, inl, inr, arith}
use Rattle.std.specs.List.{flat_map}
use Rattle.std.proofs.lemmas.Bool.{cases_lt}
use Rattle.std.proofs.lemmas.List.Elements.{filter-append}
use Rattle.ff_rec.specs.Lines.{Rec}
use Rattle.ff_rec.specs.Weights.{weigh}
use Rattle.ff_rec.proofs.WeightLaws.{weigh-append}
use Rattle.ff_net.specs.declared.net.Test.{Test}
use Rattle.ff_net.specs.Levels.{meets, again, leaves_with, levels, over_levels, results}
use Rattle.ff_net.specs.LevelLaws.{rounds_end}

module _ (send : Rec → List Rec) (p : Test) where
  -- what a test keeps of what is sent for a list
  pub kept-weigh : (test : Rec → Bool) (h : Rec → ℕ) (xs : List Rec) → weigh h (filter test (flat_map send xs)) ≡ weigh (λ t. weigh h (filter test (send t))) xs
  kept-weigh test h [] = refl
  kept-weigh test h (x ∷ xs) = omega (
    arith,
    kept-weigh test h xs,
    ap (weigh h) (filter-append test (send x) (flat_map send xs)),
    weigh-append h (filter test (send x)) (filter test (flat_map send xs)),
  )

  -- how much of what is sent for a task goes round, and how much of it is a result
  abbrev pub round : (Rec → ℕ) → Rec → ℕ
  round h t = weigh h (filter (meets p) (send t))

  abbrev pub left : (Rec → ℕ) → Rec → ℕ
  left h t = weigh h (filter (λ r. not (meets p r)) (send t))

  -- a level more: what came in, and what goes round of the levels so far
  pub levels-weigh : (k : ℕ) (h : Rec → ℕ) (xs : List Rec) → weigh h (levels (flat_map send) p (suc k) xs) ≡ weigh h xs + weigh (round h) (levels (flat_map send) p k xs)
  levels-weigh zero h xs = omega (arith, weigh-append h xs [])
  levels-weigh (suc k) h xs =
      let ys = again (flat_map send) p xs in
      omega (
        arith,
        weigh-append h xs (levels (flat_map send) p (suc k) ys),
        levels-weigh k h ys,
        kept-weigh (meets p) h xs,
        weigh-append (round h) xs (levels (flat_map send) p k ys),
      )

  -- more levels hold more, and so do those of more records
  pub levels-more : (k l : ℕ) → k ≤ l → (h : Rec → ℕ) (xs : List Rec) → weigh h (levels (flat_map send) p k xs) ≤ weigh h (levels (flat_map send) p l xs)
  levels-more zero l fewer h xs = omega arith
  levels-more (suc k) zero fewer h xs = absurd (omega (arith, fewer))
  levels-more (suc k) (suc l) fewer h xs =
      let ys = again (flat_map send) p xs in
      omega (
        arith,
        weigh-append h xs (levels (flat_map send) p k ys),
        weigh-append h xs (levels (flat_map send) p l ys),
        levels-more k l (omega (arith, fewer)) h ys,
      )

  -- what is made of each level weighs what is made of their records
  pub over_levels-weigh : (give : List Rec → List Rec) (h k : Rec → ℕ) → ((xs : List Rec) → weigh h (give xs) ≡ weigh k xs)
      → (n : ℕ) (xs : List Rec) → weigh h (over_levels give (flat_map send) p n xs) ≡ weigh k (levels (flat_map send) p n xs)
  over_levels-weigh give h k is zero xs = refl
  over_levels-weigh give h k is (suc n) xs =
      let ys = again (flat_map send) p xs in
      omega (
        arith,
        weigh-append h (give xs) (over_levels give (flat_map send) p n ys),
        weigh-append k xs (levels (flat_map send) p n ys),
        is xs,
        over_levels-weigh give h k is n ys,
      )

  -- where the first m + 1 levels hold at most `m` records, all levels do
  pub levels-ends : (m n : ℕ) (xs : List Rec) → length (levels (flat_map send) p (suc m) xs) ≤ m → m < n
      → (h : Rec → ℕ) → weigh h (levels (flat_map send) p n xs) ≡ weigh h (levels (flat_map send) p (suc m) xs)
  levels-ends m n xs few more h =
      let give : List Rec → List Rec = λ ys. ys in
      let all = rounds_end (flat_map send) give p m n xs refl refl (λ over. omega (arith, few, over)) more in
      sym (over_levels-weigh give h h (λ ys. refl) n xs) ∙ ap (weigh h) all ∙ over_levels-weigh give h h (λ ys. refl) (suc m) xs

  -- so any number of levels hold no more
  pub levels-most : (m n : ℕ) (xs : List Rec) → length (levels (flat_map send) p (suc m) xs) ≤ m
      → (h : Rec → ℕ) → weigh h (levels (flat_map send) p n xs) ≤ weigh h (levels (flat_map send) p (suc m) xs)
  levels-most m n xs few h = elim (cases_lt m n) [
    | inl more ↦ omega (arith, levels-ends m n xs few more h)
    | inr fewer ↦ levels-more n (suc m) (omega (arith, fewer)) h xs
  ]

  -- the results are what leaves of the first m + 1 levels
  pub results-weigh : (m : ℕ) (h : Rec → ℕ) (xs : List Rec) → weigh h (results (flat_map send) p m xs) ≡ weigh (left h) (levels (flat_map send) p (suc m) xs)
  results-weigh m h xs = over_levels-weigh (leaves_with (flat_map send) p) h (left h) (kept-weigh (λ r. not (meets p r)) h) (suc m) xs
