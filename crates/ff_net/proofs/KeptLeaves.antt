-- The leaves of a network that breaks no rule: Plain in farms, steady behind unordered parts.
use Rattle.std.proofs.Common.{◌≡◌, ◌+◌, ℕ, ◌⊎◌, Bool, true, false, not, List, refl, ap, subst, inl, inr}
use Rattle.ff_node.specs.Behaviour.{Behaviour}
use Rattle.ff_net.specs.declared.net.Version.{Version}
use Rattle.ff_net.specs.declared.rule.Rule.TheVariants.{CombParts, FarmLeaves, Order}
use Rattle.ff_net.specs.declared.spot.Spot.{Spot}
use Rattle.ff_net.specs.declared.spot.Role.TheVariants.{CombPart, OFarmWorker, LeftSet, RightSet, WrapWorker}
use Rattle.ff_net.specs.Tree.{Tree, Trees, Leaf, Pipe, Comb, Farm, OFarm, A2a, Wrap, none, more}
use Rattle.ff_net.specs.Forms.{is_unordered, is_ordered}
use Rattle.ff_net.specs.Places.{child, as_role, part_role, farm_worker, past, all_in, all_piped, all_combed}
use Rattle.ff_net.specs.RuleTests.{is_leaf, is_plain, is_bad_comb_part}
use Rattle.ff_net.specs.Good.{ArePlain, EachPlain, Steady, SteadyParts, AreLeaves}
use Rattle.ff_net.proofs.Kept.{and-true, or-true, or-true-right, not-false, plain_class, not_ordered, Kept, kept_front, kept_back, kept_here, kept_inner}

module _ {N : Type 0} (b : Behaviour N) (v : Version) where
  mutual
    -- behind an unordered part all leaves are steady
    pub steady : (s : Spot) (at : List ℕ) (t : Tree N) → s.behind ≡ true → Kept b v (all_in s at t) → Steady b t
    steady s at (Leaf o) is kept = not_ordered (b.class o) (and-true s.behind _ is (kept_here b v s at (Leaf o) kept Order))
    steady s at (Pipe ts) is kept = steady_piped (as_role (part_role s.role) s) at 1 ts is (kept_inner b v s at (Pipe ts) kept)
    steady s at (Comb ts) is kept = steady_combed (as_role CombPart s) at 1 ts is (kept_inner b v s at (Comb ts) kept)
    steady s at (Farm n d w) is kept = steady (farm_worker s) (child at 1) w is (kept_inner b v s at (Farm n d w) kept)
    steady s at (OFarm n d w) is kept = steady (as_role OFarmWorker s) (child at 1) w is (kept_inner b v s at (OFarm n d w) kept)
    steady s at (A2a n l r m t) is kept =
        let here = kept_inner b v s at (A2a n l r m t) kept in
        let left = all_in (as_role LeftSet s) (child at 1) l in
        let right = all_in (as_role (RightSet r) s) (child at 2) t in (
          steady (as_role LeftSet s) (child at 1) l is (kept_front b v left right here),
          steady (as_role (RightSet r) s) (child at 2) t is (kept_back b v left right here),
        )
    steady s at (Wrap n w p) is kept = steady (as_role WrapWorker s) (child at 1) w is (kept_inner b v s at (Wrap n w p) kept)

    pub steady_piped : (s : Spot) (at : List ℕ) (k : ℕ) (ts : Trees N) → s.behind ≡ true → Kept b v (all_piped s at k ts) → SteadyParts b ts
    steady_piped s at k none is kept = tt
    steady_piped s at k (more t ts) is kept =
        let front = all_in s (child at k) t in
        let back = all_piped (past t s) at (k + 1) ts in (
          steady s (child at k) t is (kept_front b v front back kept),
          steady_piped (past t s) at (k + 1) ts (or-true s.behind (is_unordered t) is) (kept_back b v front back kept),
        )

    steady_combed : (s : Spot) (at : List ℕ) (k : ℕ) (ts : Trees N) → s.behind ≡ true → Kept b v (all_combed s at k ts) → SteadyParts b ts
    steady_combed s at k none is kept = tt
    steady_combed s at k (more t ts) is kept =
        let front = all_in s (child at k) t in
        let back = all_combed s at (k + 1) ts in (
          steady s (child at k) t is (kept_front b v front back kept),
          steady_combed s at (k + 1) ts is (kept_back b v front back kept),
        )

  mutual
    -- inside a farm's worker all leaves are Plain
    pub plain : (s : Spot) (at : List ℕ) (t : Tree N) → s.in_farm ≡ true → Kept b v (all_in s at t) → ArePlain b t
    plain s at (Leaf o) is kept =
        plain_class (b.class o) (not-false (is_plain (b.class o)) (and-true s.in_farm _ is (kept_here b v s at (Leaf o) kept FarmLeaves)))
    plain s at (Pipe ts) is kept = plain_piped (as_role (part_role s.role) s) at 1 ts is (kept_inner b v s at (Pipe ts) kept)
    plain s at (Comb ts) is kept = plain_combed (as_role CombPart s) at 1 ts is (kept_inner b v s at (Comb ts) kept)
    plain s at (Farm n d w) is kept = plain (farm_worker s) (child at 1) w refl (kept_inner b v s at (Farm n d w) kept)
    plain s at (OFarm n d w) is kept = plain (as_role OFarmWorker s) (child at 1) w is (kept_inner b v s at (OFarm n d w) kept)
    plain s at (A2a n l r m t) is kept =
        let here = kept_inner b v s at (A2a n l r m t) kept in
        let left = all_in (as_role LeftSet s) (child at 1) l in
        let right = all_in (as_role (RightSet r) s) (child at 2) t in (
          plain (as_role LeftSet s) (child at 1) l is (kept_front b v left right here),
          plain (as_role (RightSet r) s) (child at 2) t is (kept_back b v left right here),
        )
    plain s at (Wrap n w p) is kept = plain (as_role WrapWorker s) (child at 1) w is (kept_inner b v s at (Wrap n w p) kept)

    plain_piped : (s : Spot) (at : List ℕ) (k : ℕ) (ts : Trees N) → s.in_farm ≡ true → Kept b v (all_piped s at k ts) → EachPlain b ts
    plain_piped s at k none is kept = tt
    plain_piped s at k (more t ts) is kept =
        let front = all_in s (child at k) t in
        let back = all_piped (past t s) at (k + 1) ts in (
          plain s (child at k) t is (kept_front b v front back kept),
          plain_piped (past t s) at (k + 1) ts is (kept_back b v front back kept),
        )

    plain_combed : (s : Spot) (at : List ℕ) (k : ℕ) (ts : Trees N) → s.in_farm ≡ true → Kept b v (all_combed s at k ts) → EachPlain b ts
    plain_combed s at k none is kept = tt
    plain_combed s at k (more t ts) is kept =
        let front = all_in s (child at k) t in
        let back = all_combed s at (k + 1) ts in (
          plain s (child at k) t is (kept_front b v front back kept),
          plain_combed s at (k + 1) ts is (kept_back b v front back kept),
        )

  -- the parts of a comb are leaves
  pub leaves_combed : (s : Spot) (at : List ℕ) (k : ℕ) (ts : Trees N) → s.role ≡ CombPart → Kept b v (all_combed s at k ts) → AreLeaves ts
  leaves_combed s at k none is kept = tt
  leaves_combed s at k (more t ts) is kept =
      let front = all_in s (child at k) t in
      let back = all_combed s at (k + 1) ts in
      let here : not (is_leaf t) ≡ false =
      subst (λ r. is_bad_comb_part r t ≡ false) is (kept_here b v s (child at k) t (kept_front b v front back kept) CombParts) in
      (not-false (is_leaf t) here, leaves_combed s at (k + 1) ts is (kept_back b v front back kept))

  -- a part of a pipe is ordered, or all behind it are steady
  pub ordered_or_steady : (s : Spot) (at : List ℕ) (k : ℕ) (t : Tree N) (ts : Trees N) → Kept b v (all_piped (past t s) at k ts)
      → (is_ordered t ≡ true) ⊎ SteadyParts b ts
  ordered_or_steady s at k t ts kept = by (is_unordered t) refl
    where
      by : (c : Bool) → is_unordered t ≡ c → (is_ordered t ≡ true) ⊎ SteadyParts b ts
      by true is = inr (steady_piped (past t s) at k ts (or-true-right s.behind (is_unordered t) is) kept)
      by false is = inl (ap not is)
