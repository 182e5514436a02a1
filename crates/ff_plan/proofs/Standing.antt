-- The network of each unit that is laid is what stands at its place.
use Rattle.std.proofs.Common.{◌≡◌, ◌≤◌, ℕ, zero, suc, ◌+◌, ◌-◌, ◌*◌, if◌then◌else◌, List, [], ◌∷◌, ◌++◌, Some, refl, ap, ◌∙◌, arith}
use Rattle.std.proofs.lemmas.Bool.{eq-eqb, ne_eqb}
use Rattle.std.proofs.lemmas.Option.{option_and_then_some}
use Rattle.std.specs.List.{AllByRecursion}
use Rattle.std.specs.Option.{option_and_then}
use Rattle.ff_net.specs.At.{net_at, child_of, part_of}
use Rattle.ff_net.specs.Counts.{count, inner_edges, pick_edges}
use Rattle.ff_net.specs.Places.{child}
use Rattle.ff_net.specs.Tree.{Tree, Trees, Leaf, Pipe, Comb, Farm, OFarm, A2a, Wrap, none, more}
use Rattle.ff_plan.specs.declared.kind.UnitKind.{UnitKind}
use Rattle.ff_plan.specs.declared.kind.UnitKind.TheVariants.{Stage, Worker}
use Rattle.ff_plan.specs.Laying.{lay, lay_parts, lay_copies, copies, row_deals, column_merges, route_kind}
use Rattle.ff_plan.specs.Rows.{Laid}
use Rattle.ff_plan.specs.Standing.{StandsIn, NetsAtPlaces}

module _ {N : Type 0} where
  -- the place of a child of what stands at a place
  net_at-child : (at : List ℕ) (w t u : Tree N) (k : ℕ) → net_at w at ≡ Some t → child_of t k ≡ Some u → net_at w (child at k) ≡ Some u
  net_at-child [] w t u k here below =
      let same : w ≡ t = cc in
      ap (option_and_then (λ (v : Tree N). net_at v [])) (ap (λ v. child_of v k) same ∙ below)
  net_at-child (j ∷ place) w t u k here below =
      option_and_then_some (λ (v : Tree N). net_at v place) (child_of w j) t here
      (λ (x : Tree N) (is : child_of w j ≡ Some x) (rest : net_at x place ≡ Some t).
      ap (option_and_then (λ (v : Tree N). net_at v (place ++ k ∷ []))) is ∙ net_at-child place x t u k rest below)

  module _ (w : Tree N) where
    both : (xs ys : List (Laid N)) → AllByRecursion (StandsIn w) xs → AllByRecursion (StandsIn w) ys → AllByRecursion (StandsIn w) (xs ++ ys)
    both [] ys here there = there
    both (x ∷ xs) ys here there = (here.0, both xs ys here.1 there)

    all_copies : (kind : UnitKind) (at : List ℕ) (t : Tree N) (i o n : ℕ) → net_at w at ≡ Some t → AllByRecursion (StandsIn w) (copies kind at t i o n)
    all_copies kind at t i o zero here = tt
    all_copies kind at t i o (suc n) here = (here, all_copies kind at t (suc i) (suc o) n here)

    all_row_deals : (kind : UnitKind) (at : List ℕ) (t : Tree N) (m b c n : ℕ) → net_at w at ≡ Some t → AllByRecursion (StandsIn w) (row_deals kind at t m b c n)
    all_row_deals kind at t m b c zero here = tt
    all_row_deals kind at t m b c (suc n) here = (here, all_row_deals kind at t m (suc b) (c + m) n here)

    all_column_merges : (at : List ℕ) (t : Tree N) (n m c d k : ℕ) → net_at w at ≡ Some t → AllByRecursion (StandsIn w) (column_merges at t n m c d k)
    all_column_merges at t n m c d zero here = tt
    all_column_merges at t n m c d (suc k) here = (here, all_column_merges at t n m (suc c) (suc d) k here)

    all_lay_copies : (one : ℕ → ℕ → ℕ → List (Laid N)) (width : ℕ) → ((i o e : ℕ) → AllByRecursion (StandsIn w) (one i o e))
        → (i o e n : ℕ) → AllByRecursion (StandsIn w) (lay_copies one width i o e n)
    all_lay_copies one width each i o e zero = tt
    all_lay_copies one width each i o e (suc n) =
        both (one i o e) (lay_copies one width (suc i) (suc o) (e + width) n) (each i o e) (all_lay_copies one width each (suc i) (suc o) (e + width) n)

    first_part : (k : ℕ) (u : Tree N) (ts : Trees N) (t : Tree N) → ((m : ℕ) → k ≤ m → child_of t m ≡ part_of k (more u ts) m) → child_of t k ≡ Some u
    first_part k u ts t left =
        let reached : k ≤ k = omega arith in
        left k reached ∙ ap (λ b. if b then Some u else part_of (k + 1) ts k) (eq-eqb k k refl)

    later_parts : (k : ℕ) (u : Tree N) (ts : Trees N) (t : Tree N) → ((m : ℕ) → k ≤ m → child_of t m ≡ part_of k (more u ts) m)
        → (m : ℕ) → k + 1 ≤ m → child_of t m ≡ part_of (k + 1) ts m
    later_parts k u ts t left m above =
        let reached : k ≤ m = omega arith in
        let differ : k ≡ m → ⊥ = λ (same : k ≡ m). omega arith in
        left m reached ∙ ap (λ b. if b then Some u else part_of (k + 1) ts m) (ne_eqb k m differ)

    mutual
      pub all_stand : (t : Tree N) (at : List ℕ) (i o e : ℕ) → net_at w at ≡ Some t → AllByRecursion (StandsIn w) (lay at t i o e)
      all_stand (Leaf x) at i o e here = (here, tt)
      all_stand (Pipe ts) at i o e here = parts_stand ts (Pipe ts) at 1 i o e (e + (count ts - 1)) here (λ (k : ℕ) (h : 1 ≤ k). refl)
      all_stand (Comb ts) at i o e here = (here, tt)
      all_stand (Farm n s p) at i o e here =
          let inside = net_at-child at w (Farm n s p) p 1 here refl in (
            here,
            both (lay_copies (lay (child at 1) p) (inner_edges p) e (e + n) (e + 2 * n) n) _
                (all_lay_copies (lay (child at 1) p) (inner_edges p) (λ (j q f : ℕ). all_stand p (child at 1) j q f inside) e (e + n) (e + 2 * n) n) (here, tt),
          )
      all_stand (OFarm n s p) at i o e here =
          let inside = net_at-child at w (OFarm n s p) p 1 here refl in (
            here,
            both (lay_copies (lay (child at 1) p) (inner_edges p) e (e + n) (e + 2 * n + pick_edges s) n) _
                (all_lay_copies (lay (child at 1) p) (inner_edges p) (λ (j q f : ℕ). all_stand p (child at 1) j q f inside) e (e + n) (e + 2 * n + pick_edges s) n) (here, tt),
          )
      all_stand (A2a n l r m t) at i o e here =
          let c = e + 2 * n in
          let d = c + n * m in
          let left = net_at-child at w (A2a n l r m t) l 1 here refl in
          let right = net_at-child at w (A2a n l r m t) t 2 here refl in (
            here,
            both (copies Stage (child at 1) l e (e + n) n) _ (all_copies Stage (child at 1) l e (e + n) n left)
                (both (row_deals (route_kind r) at (A2a n l r m t) m (e + n) c n) _ (all_row_deals (route_kind r) at (A2a n l r m t) m (e + n) c n here)
                (both (column_merges at (A2a n l r m t) n m c d m) _ (all_column_merges at (A2a n l r m t) n m c d m here)
                (both (copies Stage (child at 2) t d (d + m) m) _ (all_copies Stage (child at 2) t d (d + m) m right) (here, tt)))),
          )
      all_stand (Wrap n p f) at i o e here = (here, all_copies Worker (child at 1) p e (e + n) n (net_at-child at w (Wrap n p f) p 1 here refl))

      -- the parts of `t` from child `k` on
      parts_stand : (ts : Trees N) (t : Tree N) (at : List ℕ) (k i o j e : ℕ) → net_at w at ≡ Some t → ((m : ℕ) → k ≤ m → child_of t m ≡ part_of k ts m)
          → AllByRecursion (StandsIn w) (lay_parts at k ts i o j e)
      parts_stand none t at k i o j e here left = tt
      parts_stand (more u none) t at k i o j e here left =
          all_stand u (child at k) i o e (net_at-child at w t u k here (first_part k u none t left))
      parts_stand (more u (more v vs)) t at k i o j e here left =
          both (lay (child at k) u i j e) (lay_parts at (k + 1) (more v vs) j o (suc j) (e + inner_edges u))
          (all_stand u (child at k) i j e (net_at-child at w t u k here (first_part k u (more v vs) t left)))
          (parts_stand (more v vs) t at (k + 1) j o (suc j) (e + inner_edges u) here (later_parts k u (more v vs) t left))

  pub nets_at_places : (t : Tree N) → NetsAtPlaces t
  nets_at_places t = all_stand t t [] 0 1 2 refl
