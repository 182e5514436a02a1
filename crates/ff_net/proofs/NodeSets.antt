-- What the tests of single networks say of their leaves, their sets and their numbers.
use Rattle.std.proofs.Common.{◌≡◌, ℕ, nat_eq, ◌⊎◌, Bool, true, false, not, ◌||◌, Some, refl, ap, sym, ◌∙◌, inl, inr, arith}
use Rattle.std.proofs.lemmas.Bool.{eqb-true}
use Rattle.ff_node.specs.declared.class.Class.{Class}
use Rattle.ff_node.specs.declared.class.Class.TheVariants.{Plain, Ordered, Fold, Keyed}
use Rattle.ff_node.specs.Behaviour.{Behaviour}
use Rattle.ff_net.specs.declared.net.Route.{Route}
use Rattle.ff_net.specs.declared.net.Route.TheVariants.{Rr, Od, By}
use Rattle.ff_net.specs.Tree.{Tree, Trees, Leaf, Pipe, Comb, Farm, OFarm, A2a, Wrap, none, more}
use Rattle.ff_net.specs.RuleTests.{is_off, is_node, all_plain, each_plain, is_plain_node, leaf_key, key_of, is_keyed, misses, has_bad_field}
use Rattle.ff_net.specs.Good.{InRange, ArePlain, EachPlain, PlainNode, KeyedNode, RouteInRange}
use Rattle.ff_net.proofs.Kept.{not-false, and-both, plain_class}

pub in_range : (n : ℕ) → is_off n ≡ false → InRange n
in_range n is = (grind (arith, is), grind (arith, is))

goes_by : (r : Route) (f : ℕ) → misses r (Some f) ≡ false → r ≡ By f
goes_by Rr f is = absurd (cc)
goes_by Od f is = absurd (cc)
goes_by (By g) f is = ap By (eqb-true g f (not-false (nat_eq g f) is))

-- a route as an all-to-all has it
pub route_in_range : {N : Type 0} (n m : ℕ) (l t : Tree N) (r : Route) → has_bad_field (A2a n l r m t) ≡ false → RouteInRange r
route_in_range n m l t Rr is = tt
route_in_range n m l t Od is = tt
route_in_range n m l t (By f) is = in_range f is

keyed_class : (c : Class) → is_keyed (key_of c) ≡ true → (f : ℕ) × (c ≡ Keyed f)
keyed_class Plain is = absurd (cc)
keyed_class Ordered is = absurd (cc)
keyed_class Fold is = absurd (cc)
keyed_class (Keyed f) is = (f, refl)

module _ {N : Type 0} (b : Behaviour N) where
  mutual
    pub are_plain : (t : Tree N) → all_plain b t ≡ true → ArePlain b t
    are_plain (Leaf o) is = plain_class (b.class o) is
    are_plain (Pipe ts) is = each_is_plain ts is
    are_plain (Comb ts) is = each_is_plain ts is
    are_plain (Farm n d w) is = are_plain w is
    are_plain (OFarm n d w) is = are_plain w is
    are_plain (A2a n l r m t) is =
        let both = and-both (all_plain b l) (all_plain b t) is in
        (are_plain l both.0, are_plain t both.1)
    are_plain (Wrap n w p) is = are_plain w is

    each_is_plain : (ts : Trees N) → each_plain b ts ≡ true → EachPlain b ts
    each_is_plain none is = tt
    each_is_plain (more t ts) is =
        let both = and-both (all_plain b t) (each_plain b ts) is in
        (are_plain t both.0, each_is_plain ts both.1)

  pub plain_node : (t : Tree N) → not (is_plain_node b t) ≡ false → PlainNode b t
  plain_node t is =
      let both = and-both (is_node t) (all_plain b t) (not-false (is_plain_node b t) is) in
      (both.0, are_plain t both.1)

  keyed_node : (r : Route) (t : Tree N) → is_keyed (leaf_key b t) ≡ true → misses r (leaf_key b t) ≡ false → KeyedNode b r t
  keyed_node r (Leaf o) is goes =
      let keyed = keyed_class (b.class o) is in
      (o, keyed.0, refl, keyed.1, goes_by r keyed.0 (ap (λ c. misses r (key_of c)) (sym keyed.1) ∙ goes))
  keyed_node r (Pipe ts) is goes = absurd (cc)
  keyed_node r (Comb ts) is goes = absurd (cc)
  keyed_node r (Farm n d w) is goes = absurd (cc)
  keyed_node r (OFarm n d w) is goes = absurd (cc)
  keyed_node r (A2a n l q m t) is goes = absurd (cc)
  keyed_node r (Wrap n w p) is goes = absurd (cc)

  pub right_set : (r : Route) (t : Tree N) → not (is_plain_node b t || is_keyed (leaf_key b t)) ≡ false → misses r (leaf_key b t) ≡ false
      → PlainNode b t ⊎ KeyedNode b r t
  right_set r t is goes = by (is_plain_node b t) refl
    where
      by : (c : Bool) → is_plain_node b t ≡ c → PlainNode b t ⊎ KeyedNode b r t
      by true plain =
          let both = and-both (is_node t) (all_plain b t) plain in
          inl (both.0, are_plain t both.1)
      by false other =
          let keyed : is_keyed (leaf_key b t) ≡ true =
          ap (λ c. c || is_keyed (leaf_key b t)) (sym other) ∙ not-false (is_plain_node b t || is_keyed (leaf_key b t)) is in
          inr (keyed_node r t keyed goes)
