-- The first of all faults, rule by rule, and the depth of a network in which nothing is too deep.
use Rattle.std.proofs.Common.{◌≡◌, ◌≤◌, ◌+◌, ℕ, nat_eq, Bool, true, false, if◌then◌else◌, List, [], ◌∷◌, ◌++◌, map, length, Option, None, Some, refl, sym, ◌∙◌, arith}
use Rattle.std.specs.Option.{option_or, option_map}
use Rattle.ff_node.specs.Behaviour.{Behaviour}
use Rattle.ff_net.specs.declared.net.Version.{Version}
use Rattle.ff_net.specs.declared.rule.Rule.{Rule}
use Rattle.ff_net.specs.declared.rule.Rule.TheVariants.{Depth}
use Rattle.ff_net.specs.declared.spot.Spot.{Spot}
use Rattle.ff_net.specs.declared.spot.Role.TheVariants.{CombPart, OFarmWorker, LeftSet, RightSet, WrapWorker}
use Rattle.ff_net.specs.Tree.{Tree, Trees, none, more, Leaf, Pipe, Comb, Farm, OFarm, A2a, Wrap}
use Rattle.ff_net.specs.Counts.{depth, deepest}
use Rattle.ff_net.specs.Places.{Seen, child, as_role, part_role, farm_worker, past, whole, all_in, all_piped, all_combed}
use Rattle.ff_net.specs.Rules.{places, first, fails, breaks, faults_of, number_of}
use Rattle.ff_net.proofs.Search.{places-append, length-child}

first-map : {A B : Type 0} (f : A → B) (xs : List A) (ys : List B) → first (map f xs ++ ys) ≡ option_or (option_map f (first xs)) (first ys)
first-map f [] ys = refl
first-map f (x ∷ xs) ys = refl

-- the first fault by several rules is the first place of the first of them, or else it is of those behind it
pub faults_of-first : {N : Type 0} (b : Behaviour N) (v : Version) (t : Tree N) (rule : Rule) (rules : List Rule)
    → first (faults_of b v t (rule ∷ rules)) ≡ option_or (option_map (λ place. (number_of rule, place)) (first (breaks b v rule t))) (first (faults_of b v t rules))
faults_of-first b v t rule rules = first-map (λ place. (number_of rule, place)) (breaks b v rule t) (faults_of b v t rules)

-- where nothing comes first, nothing is there
pub or-none : {A : Type 0} (o p : Option A) → option_or o p ≡ None → (o ≡ None) × (p ≡ None)
or-none None p is = (refl, is)
or-none (Some x) p is = absurd (cc)

-- where one that may be there comes first, it isn't
pub none-here : (c : Bool) (at : List ℕ) (xs : List (List ℕ)) → first (if c then at ∷ xs else xs) ≡ None → (c ≡ false) × (first xs ≡ None)
none-here true at xs is = absurd (cc)
none-here false at xs is = (refl, is)

module _ {N : Type 0} (b : Behaviour N) (v : Version) where
  abbrev deep : Seen N → Bool
  deep = fails b v Depth

  none-split : (xs ys : List (Seen N)) → first (places deep (xs ++ ys)) ≡ None → (first (places deep xs) ≡ None) × (first (places deep ys) ≡ None)
  none-split xs ys is = or-none (first (places deep xs)) (first (places deep ys)) (sym (places-append deep xs ys) ∙ is)

  one_more : (at : List ℕ) → nat_eq (length at) 16 ≡ false → length at ≤ 16 → length at + 1 ≤ 16
  one_more at other short = grind (arith, other, short)

  mutual
    -- a network in which nothing is too deep is not too deep
    pub shallow : (s : Spot) (at : List ℕ) (t : Tree N) → length at ≤ 16 → first (places deep (all_in s at t)) ≡ None → length at + depth t ≤ 16
    shallow s at (Leaf o) short is = one_more at (none-here (nat_eq (length at) 16) at [] is).0 short
    shallow s at (Pipe ts) short is =
        let here = none-here (nat_eq (length at) 16) at (places deep (all_piped (as_role (part_role s.role) s) at 1 ts)) is in
        let inner = shallow_piped (as_role (part_role s.role) s) at 1 ts (one_more at here.0 short) here.1 in
        omega (arith, inner)
    shallow s at (Comb ts) short is =
        let here = none-here (nat_eq (length at) 16) at (places deep (all_combed (as_role CombPart s) at 1 ts)) is in
        let inner = shallow_combed (as_role CombPart s) at 1 ts (one_more at here.0 short) here.1 in
        omega (arith, inner)
    shallow s at (Farm n d w) short is =
        let here = none-here (nat_eq (length at) 16) at (places deep (all_in (farm_worker s) (child at 1) w)) is in
        let more_down : length (child at 1) ≤ 16 = omega (arith, length-child at 1, one_more at here.0 short) in
        let inner = shallow (farm_worker s) (child at 1) w more_down here.1 in
        omega (arith, inner, length-child at 1)
    shallow s at (OFarm n d w) short is =
        let here = none-here (nat_eq (length at) 16) at (places deep (all_in (as_role OFarmWorker s) (child at 1) w)) is in
        let more_down : length (child at 1) ≤ 16 = omega (arith, length-child at 1, one_more at here.0 short) in
        let inner = shallow (as_role OFarmWorker s) (child at 1) w more_down here.1 in
        omega (arith, inner, length-child at 1)
    shallow s at (A2a n l r m t) short is =
        let here = none-here (nat_eq (length at) 16) at (places deep (all_in (as_role LeftSet s) (child at 1) l ++ all_in (as_role (RightSet r) s) (child at 2) t)) is in
        let both = none-split (all_in (as_role LeftSet s) (child at 1) l) (all_in (as_role (RightSet r) s) (child at 2) t) here.1 in
        let more_down : length (child at 1) ≤ 16 = omega (arith, length-child at 1, one_more at here.0 short) in
        let more_down_right : length (child at 2) ≤ 16 = omega (arith, length-child at 2, one_more at here.0 short) in
        let left = shallow (as_role LeftSet s) (child at 1) l more_down both.0 in
        let right = shallow (as_role (RightSet r) s) (child at 2) t more_down_right both.1 in
        omega (arith, left, right, length-child at 1, length-child at 2)
    shallow s at (Wrap n w p) short is =
        let here = none-here (nat_eq (length at) 16) at (places deep (all_in (as_role WrapWorker s) (child at 1) w)) is in
        let more_down : length (child at 1) ≤ 16 = omega (arith, length-child at 1, one_more at here.0 short) in
        let inner = shallow (as_role WrapWorker s) (child at 1) w more_down here.1 in
        omega (arith, inner, length-child at 1)

    shallow_piped : (s : Spot) (at : List ℕ) (k : ℕ) (ts : Trees N) → length at + 1 ≤ 16 → first (places deep (all_piped s at k ts)) ≡ None → length at + 1 + deepest ts ≤ 16
    shallow_piped s at k none short is = omega (arith, short)
    shallow_piped s at k (more t ts) short is =
        let both = none-split (all_in s (child at k) t) (all_piped (past t s) at (k + 1) ts) is in
        let more_down : length (child at k) ≤ 16 = omega (arith, length-child at k, short) in
        let here = shallow s (child at k) t more_down both.0 in
        omega (arith, here, length-child at k, shallow_piped (past t s) at (k + 1) ts short both.1)

    shallow_combed : (s : Spot) (at : List ℕ) (k : ℕ) (ts : Trees N) → length at + 1 ≤ 16 → first (places deep (all_combed s at k ts)) ≡ None → length at + 1 + deepest ts ≤ 16
    shallow_combed s at k none short is = omega (arith, short)
    shallow_combed s at k (more t ts) short is =
        let both = none-split (all_in s (child at k) t) (all_combed s at (k + 1) ts) is in
        let more_down : length (child at k) ≤ 16 = omega (arith, length-child at k, short) in
        let here = shallow s (child at k) t more_down both.0 in
        omega (arith, here, length-child at k, shallow_combed s at (k + 1) ts short both.1)

-- the same of the whole network
pub shallow_whole : {N : Type 0} (b : Behaviour N) (v : Version) (t : Tree N) → first (breaks b v Depth t) ≡ None → depth t ≤ 16
shallow_whole b v t is = omega (arith, shallow b v whole [] t (omega arith) is)
