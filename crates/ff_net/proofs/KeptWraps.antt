-- The wraps of a network that breaks no rule.
use Rattle.std.proofs.Common.{◌≡◌, ◌+◌, ℕ, ◌⊎◌, true, false, List, [], refl, sym, subst, ◌∙◌, inl, inr}
use Rattle.ff_node.specs.Behaviour.{Behaviour}
use Rattle.ff_net.specs.declared.net.Version.{Version}
use Rattle.ff_net.specs.declared.rule.Rule.TheVariants.{WrapPlaces}
use Rattle.ff_net.specs.declared.spot.Spot.{Spot}
use Rattle.ff_net.specs.declared.spot.Role.{Role}
use Rattle.ff_net.specs.declared.spot.Role.TheVariants.{Whole, TopPart, PipePart, CombPart, FarmWorker, OFarmWorker, LeftSet, RightSet, WrapWorker}
use Rattle.ff_net.specs.Tree.{Tree, Trees, Leaf, Pipe, Comb, Farm, OFarm, A2a, Wrap, none, more}
use Rattle.ff_net.specs.Forms.{has_wrap, any_wrap}
use Rattle.ff_net.specs.Places.{child, as_role, part_role, farm_worker, past, all_in, all_piped, all_combed, whole}
use Rattle.ff_net.specs.RuleTests.{is_bad_wrap, is_wrap}
use Rattle.ff_net.specs.declared.net.Test.{Test}
use Rattle.ff_net.specs.Good.{EachTopOrNone, WrapsOnTop}
use Rattle.ff_net.proofs.Kept.{both-false, Kept, kept_front, kept_back, kept_here, kept_inner}

-- a role in which no wrap may stand
abbrev IsInner : Role → Type 0
IsInner Whole = ⊥
IsInner TopPart = ⊥
IsInner _ = Unit {0}

part_role-inner : (r : Role) → IsInner r → part_role r ≡ PipePart
part_role-inner Whole h = absurd h
part_role-inner TopPart h = absurd h
part_role-inner PipePart h = refl
part_role-inner CombPart h = refl
part_role-inner FarmWorker h = refl
part_role-inner OFarmWorker h = refl
part_role-inner LeftSet h = refl
part_role-inner (RightSet r) h = refl
part_role-inner WrapWorker h = refl

module _ {N : Type 0} (b : Behaviour N) (v : Version) where
  bad_wrap : (r : Role) (n : ℕ) (w : Tree N) (p : Test) → IsInner r → is_bad_wrap r (Wrap n w p) ≡ true
  bad_wrap Whole n w p h = absurd h
  bad_wrap TopPart n w p h = absurd h
  bad_wrap PipePart n w p h = refl
  bad_wrap CombPart n w p h = refl
  bad_wrap FarmWorker n w p h = refl
  bad_wrap OFarmWorker n w p h = refl
  bad_wrap LeftSet n w p h = refl
  bad_wrap (RightSet r) n w p h = refl
  bad_wrap WrapWorker n w p h = refl

  no_wrap_there : (r : Role) (n : ℕ) (w : Tree N) (p : Test) → IsInner r → is_bad_wrap r (Wrap n w p) ≡ false → has_wrap (Wrap n w p) ≡ false
  no_wrap_there r n w p h is = sym (bad_wrap r n w p h) ∙ is

  mutual
    -- a wrap stands only at the top
    pub no_wrap : (s : Spot) (at : List ℕ) (t : Tree N) → IsInner s.role → Kept b v (all_in s at t) → has_wrap t ≡ false
    no_wrap s at (Leaf o) h kept = refl
    no_wrap s at (Pipe ts) h kept =
        no_wrap_piped (as_role (part_role s.role) s) at 1 ts (subst IsInner (sym (part_role-inner s.role h)) tt) (kept_inner b v s at (Pipe ts) kept)
    no_wrap s at (Comb ts) h kept = no_wrap_combed (as_role CombPart s) at 1 ts tt (kept_inner b v s at (Comb ts) kept)
    no_wrap s at (Farm n d w) h kept = no_wrap (farm_worker s) (child at 1) w tt (kept_inner b v s at (Farm n d w) kept)
    no_wrap s at (OFarm n d w) h kept = no_wrap (as_role OFarmWorker s) (child at 1) w tt (kept_inner b v s at (OFarm n d w) kept)
    no_wrap s at (A2a n l r m t) h kept =
        let here = kept_inner b v s at (A2a n l r m t) kept in
        let left = all_in (as_role LeftSet s) (child at 1) l in
        let right = all_in (as_role (RightSet r) s) (child at 2) t in
        both-false (has_wrap l) (has_wrap t) (no_wrap (as_role LeftSet s) (child at 1) l tt (kept_front b v left right here))
        (no_wrap (as_role (RightSet r) s) (child at 2) t tt (kept_back b v left right here))
    no_wrap s at (Wrap n w p) h kept = no_wrap_there s.role n w p h (kept_here b v s at (Wrap n w p) kept WrapPlaces)

    no_wrap_piped : (s : Spot) (at : List ℕ) (k : ℕ) (ts : Trees N) → IsInner s.role → Kept b v (all_piped s at k ts) → any_wrap ts ≡ false
    no_wrap_piped s at k none h kept = refl
    no_wrap_piped s at k (more t ts) h kept =
        let front = all_in s (child at k) t in
        let back = all_piped (past t s) at (k + 1) ts in
        both-false (has_wrap t) (any_wrap ts) (no_wrap s (child at k) t h (kept_front b v front back kept))
        (no_wrap_piped (past t s) at (k + 1) ts h (kept_back b v front back kept))

    no_wrap_combed : (s : Spot) (at : List ℕ) (k : ℕ) (ts : Trees N) → IsInner s.role → Kept b v (all_combed s at k ts) → any_wrap ts ≡ false
    no_wrap_combed s at k none h kept = refl
    no_wrap_combed s at k (more t ts) h kept =
        let front = all_in s (child at k) t in
        let back = all_combed s at (k + 1) ts in
        both-false (has_wrap t) (any_wrap ts) (no_wrap s (child at k) t h (kept_front b v front back kept))
        (no_wrap_combed s at (k + 1) ts h (kept_back b v front back kept))

  -- a part of the outermost pipe is a wrap or has none
  top_part : (s : Spot) (at : List ℕ) (t : Tree N) → s.role ≡ TopPart → Kept b v (all_in s at t) → (is_wrap t ≡ true) ⊎ (has_wrap t ≡ false)
  top_part s at (Leaf o) is kept = inr refl
  top_part s at (Pipe ts) is kept =
      inr (no_wrap_piped (as_role (part_role s.role) s) at 1 ts (subst (λ r. IsInner (part_role r)) (sym is) tt) (kept_inner b v s at (Pipe ts) kept))
  top_part s at (Comb ts) is kept = inr (no_wrap_combed (as_role CombPart s) at 1 ts tt (kept_inner b v s at (Comb ts) kept))
  top_part s at (Farm n d w) is kept = inr (no_wrap (farm_worker s) (child at 1) w tt (kept_inner b v s at (Farm n d w) kept))
  top_part s at (OFarm n d w) is kept = inr (no_wrap (as_role OFarmWorker s) (child at 1) w tt (kept_inner b v s at (OFarm n d w) kept))
  top_part s at (A2a n l r m t) is kept =
      let here = kept_inner b v s at (A2a n l r m t) kept in
      let left = all_in (as_role LeftSet s) (child at 1) l in
      let right = all_in (as_role (RightSet r) s) (child at 2) t in
      inr (both-false (has_wrap l) (has_wrap t) (no_wrap (as_role LeftSet s) (child at 1) l tt (kept_front b v left right here))
      (no_wrap (as_role (RightSet r) s) (child at 2) t tt (kept_back b v left right here)))
  top_part s at (Wrap n w p) is kept = inl refl

  top_parts : (s : Spot) (at : List ℕ) (k : ℕ) (ts : Trees N) → s.role ≡ TopPart → Kept b v (all_piped s at k ts) → EachTopOrNone ts
  top_parts s at k none is kept = tt
  top_parts s at k (more t ts) is kept =
      let front = all_in s (child at k) t in
      let back = all_piped (past t s) at (k + 1) ts in
      (top_part s (child at k) t is (kept_front b v front back kept), top_parts (past t s) at (k + 1) ts is (kept_back b v front back kept))

  -- where wraps may stand in a whole network
  pub wraps_on_top : (t : Tree N) → Kept b v (all_in whole [] t) → WrapsOnTop t
  wraps_on_top (Leaf o) kept = refl
  wraps_on_top (Pipe ts) kept = top_parts (as_role TopPart whole) [] 1 ts refl (kept_inner b v whole [] (Pipe ts) kept)
  wraps_on_top (Comb ts) kept = no_wrap_combed (as_role CombPart whole) [] 1 ts tt (kept_inner b v whole [] (Comb ts) kept)
  wraps_on_top (Farm n d w) kept = no_wrap (farm_worker whole) (child [] 1) w tt (kept_inner b v whole [] (Farm n d w) kept)
  wraps_on_top (OFarm n d w) kept = no_wrap (as_role OFarmWorker whole) (child [] 1) w tt (kept_inner b v whole [] (OFarm n d w) kept)
  wraps_on_top (A2a n l r m t) kept =
      let here = kept_inner b v whole [] (A2a n l r m t) kept in
      let left = all_in (as_role LeftSet whole) (child [] 1) l in
      let right = all_in (as_role (RightSet r) whole) (child [] 2) t in
      both-false (has_wrap l) (has_wrap t) (no_wrap (as_role LeftSet whole) (child [] 1) l tt (kept_front b v left right here))
      (no_wrap (as_role (RightSet r) whole) (child [] 2) t tt (kept_back b v left right here))
  wraps_on_top (Wrap n w p) kept = tt
