-- Networks in which no rule fails.
use Rattle.std.proofs.Common.{◌≡◌, ◌≢◌, ℕ, Bool, true, false, not, ◌&&◌, ◌||◌, List, [], ◌∷◌, ◌++◌, Option, None, Some, refl, sym, ◌∙◌}
use Rattle.std.specs.Option.{option_map}
use Rattle.std.specs.List.{AllByRecursion}
use Rattle.ff_node.specs.declared.class.Class.{Class}
use Rattle.ff_node.specs.declared.class.Class.TheVariants.{Plain, Ordered, Fold, Keyed}
use Rattle.ff_node.specs.Behaviour.{Behaviour}
use Rattle.ff_net.specs.declared.net.Version.{Version}
use Rattle.ff_net.specs.declared.rule.Rule.{Rule}
use Rattle.ff_net.specs.declared.rule.Rule.TheVariants.{Depth, Parts, Workers, Units, Edges, CombParts, FarmLeaves, OFarmWorkers, Sets, Order, Keys, WrapWorkers, WrapPlaces, FieldNumbers}
use Rattle.ff_net.specs.declared.spot.Spot.{Spot}
use Rattle.ff_net.specs.Tree.{Tree, Leaf, Pipe, Comb, Farm, OFarm, A2a, Wrap}
use Rattle.ff_net.specs.Places.{Seen, seen, whole, child, as_role, part_role, farm_worker, all_in, all_piped, all_combed}
use Rattle.ff_net.specs.declared.spot.Role.TheVariants.{CombPart, OFarmWorker, LeftSet, RightSet, WrapWorker}
use Rattle.ff_net.specs.RuleTests.{is_plain, has_ordered_class}
use Rattle.ff_net.specs.Rules.{places, first, fails, breaks, faults_of, all_rules, number_of, first_fault}
use Rattle.ff_net.proofs.Search.{places-append}
use Rattle.ff_net.proofs.FirstFault.{or-none, none-here, faults_of-first}

-- what the tests say
pub and-true : (c d : Bool) → c ≡ true → (c && d) ≡ false → d ≡ false
and-true true d is off = off
and-true false d is off = absurd (cc)

pub or-true : (c d : Bool) → c ≡ true → (c || d) ≡ true
or-true true d is = refl
or-true false d is = absurd (cc)

pub or-true-right : (c d : Bool) → d ≡ true → (c || d) ≡ true
or-true-right true d is = refl
or-true-right false d is = is

pub not-false : (c : Bool) → not c ≡ false → c ≡ true
not-false true is = refl
not-false false is = absurd (cc)

pub and-both : (c d : Bool) → (c && d) ≡ true → (c ≡ true) × (d ≡ true)
and-both true d is = (refl, is)
and-both false d is = absurd (cc)

pub or-false : (c d : Bool) → (c || d) ≡ false → (c ≡ false) × (d ≡ false)
or-false true d is = absurd (cc)
or-false false d is = (refl, is)

pub both-false : (c d : Bool) → c ≡ false → d ≡ false → (c || d) ≡ false
both-false true d is other = absurd (cc)
both-false false d is other = other

pub plain_class : (c : Class) → is_plain c ≡ true → c ≡ Plain
plain_class Plain is = refl
plain_class Ordered is = absurd (cc)
plain_class Fold is = absurd (cc)
plain_class (Keyed f) is = absurd (cc)

pub not_ordered : (c : Class) → has_ordered_class c ≡ false → c ≢ Ordered
not_ordered Plain other is = cc
not_ordered Ordered other is = cc
not_ordered Fold other is = cc
not_ordered (Keyed f) other is = cc

module _ {N : Type 0} (b : Behaviour N) (v : Version) where
  -- no rule fails at any of these
  abbrev pub Kept : List (Seen N) → Type 0
  Kept xs = (rule : Rule) → first (places (fails b v rule) xs) ≡ None

  pub kept_head : (x : Seen N) (xs : List (Seen N)) → Kept (x ∷ xs) → (rule : Rule) → fails b v rule x ≡ false
  kept_head x xs kept rule = (none-here (fails b v rule x) x.place (places (fails b v rule) xs) (kept rule)).0

  pub kept_tail : (x : Seen N) (xs : List (Seen N)) → Kept (x ∷ xs) → Kept xs
  kept_tail x xs kept rule = (none-here (fails b v rule x) x.place (places (fails b v rule) xs) (kept rule)).1

  pub kept_front : (xs ys : List (Seen N)) → Kept (xs ++ ys) → Kept xs
  kept_front xs ys kept rule =
      (or-none (first (places (fails b v rule) xs)) (first (places (fails b v rule) ys)) (sym (places-append (fails b v rule) xs ys) ∙ kept rule)).0

  pub kept_back : (xs ys : List (Seen N)) → Kept (xs ++ ys) → Kept ys
  kept_back xs ys kept rule =
      (or-none (first (places (fails b v rule) xs)) (first (places (fails b v rule) ys)) (sym (places-append (fails b v rule) xs ys) ∙ kept rule)).1

  -- the networks in a network
  abbrev pub inner : Spot → List ℕ → Tree N → List (Seen N)
  inner s at (Leaf o) = []
  inner s at (Pipe ts) = all_piped (as_role (part_role s.role) s) at 1 ts
  inner s at (Comb ts) = all_combed (as_role CombPart s) at 1 ts
  inner s at (Farm n d w) = all_in (farm_worker s) (child at 1) w
  inner s at (OFarm n d w) = all_in (as_role OFarmWorker s) (child at 1) w
  inner s at (A2a n l r m t) = all_in (as_role LeftSet s) (child at 1) l ++ all_in (as_role (RightSet r) s) (child at 2) t
  inner s at (Wrap n w p) = all_in (as_role WrapWorker s) (child at 1) w

  -- no rule fails at a network itself, where none fails in it
  pub kept_here : (s : Spot) (at : List ℕ) (t : Tree N) → Kept (all_in s at t) → (rule : Rule) → fails b v rule (seen s at t) ≡ false
  kept_here s at (Leaf o) kept = kept_head (seen s at (Leaf o)) (inner s at (Leaf o)) kept
  kept_here s at (Pipe ts) kept = kept_head (seen s at (Pipe ts)) (inner s at (Pipe ts)) kept
  kept_here s at (Comb ts) kept = kept_head (seen s at (Comb ts)) (inner s at (Comb ts)) kept
  kept_here s at (Farm n d w) kept = kept_head (seen s at (Farm n d w)) (inner s at (Farm n d w)) kept
  kept_here s at (OFarm n d w) kept = kept_head (seen s at (OFarm n d w)) (inner s at (OFarm n d w)) kept
  kept_here s at (A2a n l r m t) kept = kept_head (seen s at (A2a n l r m t)) (inner s at (A2a n l r m t)) kept
  kept_here s at (Wrap n w p) kept = kept_head (seen s at (Wrap n w p)) (inner s at (Wrap n w p)) kept

  -- nor at the networks in it
  pub kept_inner : (s : Spot) (at : List ℕ) (t : Tree N) → Kept (all_in s at t) → Kept (inner s at t)
  kept_inner s at (Leaf o) kept = kept_tail (seen s at (Leaf o)) (inner s at (Leaf o)) kept
  kept_inner s at (Pipe ts) kept = kept_tail (seen s at (Pipe ts)) (inner s at (Pipe ts)) kept
  kept_inner s at (Comb ts) kept = kept_tail (seen s at (Comb ts)) (inner s at (Comb ts)) kept
  kept_inner s at (Farm n d w) kept = kept_tail (seen s at (Farm n d w)) (inner s at (Farm n d w)) kept
  kept_inner s at (OFarm n d w) kept = kept_tail (seen s at (OFarm n d w)) (inner s at (OFarm n d w)) kept
  kept_inner s at (A2a n l r m t) kept = kept_tail (seen s at (A2a n l r m t)) (inner s at (A2a n l r m t)) kept
  kept_inner s at (Wrap n w p) kept = kept_tail (seen s at (Wrap n w p)) (inner s at (Wrap n w p)) kept

none-mapped : {A B : Type 0} (f : A → B) (o : Option A) → option_map f o ≡ None → o ≡ None
none-mapped f None is = refl
none-mapped f (Some x) is = absurd (cc)

none-each : {N : Type 0} (b : Behaviour N) (v : Version) (t : Tree N) (rules : List Rule) → first (faults_of b v t rules) ≡ None
    → AllByRecursion (λ rule. first (breaks b v rule t) ≡ None) rules
none-each b v t [] is = tt
none-each b v t (rule ∷ rules) is =
    let named = option_map (λ place. (number_of rule, place)) (first (breaks b v rule t)) in
    let both = or-none named (first (faults_of b v t rules)) (sym (faults_of-first b v t rule rules) ∙ is) in
    (none-mapped (λ place. (number_of rule, place)) (first (breaks b v rule t)) both.0, none-each b v t rules both.1)

-- a network without a fault breaks no rule
pub kept_whole : {N : Type 0} (b : Behaviour N) (v : Version) (t : Tree N) → first_fault b v t ≡ None → Kept b v (all_in whole [] t)
kept_whole b v t is = by (none-each b v t all_rules is)
  where
    by : AllByRecursion (λ rule. first (breaks b v rule t) ≡ None) all_rules → (rule : Rule) → first (places (fails b v rule) (all_in whole [] t)) ≡ None
    by all Depth = all.0
    by all Parts = all.1.0
    by all Workers = all.1.1.0
    by all Units = all.1.1.1.0
    by all Edges = all.1.1.1.1.0
    by all CombParts = all.1.1.1.1.1.0
    by all FarmLeaves = all.1.1.1.1.1.1.0
    by all OFarmWorkers = all.1.1.1.1.1.1.1.0
    by all Sets = all.1.1.1.1.1.1.1.1.0
    by all Order = all.1.1.1.1.1.1.1.1.1.0
    by all Keys = all.1.1.1.1.1.1.1.1.1.1.0
    by all WrapWorkers = all.1.1.1.1.1.1.1.1.1.1.1.0
    by all WrapPlaces = all.1.1.1.1.1.1.1.1.1.1.1.1.0
    by all FieldNumbers = all.1.1.1.1.1.1.1.1.1.1.1.1.1.0
