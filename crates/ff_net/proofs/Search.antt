-- The search for the first place at which a rule fails.
use Rattle.std.proofs.Common.{◌≡◌, ◌≤◌, ◌<◌, ◌+◌, ℕ, nat_eq, Bool, true, false, if◌then◌else◌, List, [], ◌∷◌, ◌++◌, length, None, Some, refl, ap, sym, subst, ◌∙◌, inl, inr, arith, length-append, get_or, drop, drop-cons, suc, add-one}
use Rattle.std.specs.Option.{option_or}
use Rattle.ff_node.specs.Behaviour.{Behaviour}
use Rattle.ff_net.specs.declared.net.Version.{Version}
use Rattle.ff_net.specs.declared.rule.Rule.{Rule}
use Rattle.ff_net.specs.declared.spot.Spot.{Spot}
use Rattle.ff_net.specs.Tree.{Tree, more, tree_of, trees_of, Leaf, Pipe, Comb, Farm, OFarm, A2a, Wrap, tree_of-Pipe, tree_of-Comb}
use Rattle.ff_net.specs.Places.{Seen, seen, child, as_role, part_role, farm_worker, all_in, all_piped, all_combed}
use Rattle.ff_net.specs.declared.net.Net.{Net}
use Rattle.ff_net.specs.declared.spot.Role.TheVariants.{CombPart, OFarmWorker, LeftSet, RightSet, WrapWorker}
use Rattle.ff_net.specs.Room.{HasRoom}
use Rattle.ff_net.specs.Rules.{places, first, fails}

module _ {N : Type 0} (f : Seen N → Bool) where
  -- the first of two lists one behind the other
  pub places-append : (xs ys : List (Seen N)) → first (places f (xs ++ ys)) ≡ option_or (first (places f xs)) (first (places f ys))
  places-append [] ys = refl
  places-append (x ∷ xs) ys = by (f x) (places-append xs ys)
    where
      by : (c : Bool) → first (places f (xs ++ ys)) ≡ option_or (first (places f xs)) (first (places f ys))
          → first (if c then x.place ∷ places f (xs ++ ys) else places f (xs ++ ys))
          ≡ option_or (first (if c then x.place ∷ places f xs else places f xs)) (first (places f ys))
      by true rest = refl
      by false rest = rest

  -- one that fails comes first
  pub places-hit : (x : Seen N) (xs : List (Seen N)) → f x ≡ true → first (places f (x ∷ xs)) ≡ Some x.place
  places-hit x xs is = ap (λ c. first (if c then x.place ∷ places f xs else places f xs)) is

  -- one that doesn't is left out
  pub places-miss : (x : Seen N) (xs : List (Seen N)) → f x ≡ false → first (places f (x ∷ xs)) ≡ first (places f xs)
  places-miss x xs is = ap (λ c. first (if c then x.place ∷ places f xs else places f xs)) is

  -- where the first of them fails nowhere, the second decides
  pub places-skip : (xs ys : List (Seen N)) → first (places f xs) ≡ None → first (places f (xs ++ ys)) ≡ first (places f ys)
  places-skip xs ys is = places-append xs ys ∙ ap (λ o. option_or o (first (places f ys))) is

  -- where it fails in the first of them, that is it
  pub places-found : (xs ys : List (Seen N)) (at : List ℕ) → first (places f xs) ≡ Some at → first (places f (xs ++ ys)) ≡ Some at
  places-found xs ys at is = places-append xs ys ∙ ap (λ o. option_or o (first (places f ys))) is

pub length-child : (at : List ℕ) (k : ℕ) → length (child at k) ≡ length at + 1
length-child at k = length-append at (k ∷ [])

-- a network that fails is the first place itself
pub places-here : {N : Type 0} (f : Seen N → Bool) (s : Spot) (at : List ℕ) (t : Tree N) → f (seen s at t) ≡ true → first (places f (all_in s at t)) ≡ Some at
places-here f s at (Leaf o) is = places-hit f (seen s at (Leaf o)) [] is
places-here f s at (Pipe ts) is = places-hit f (seen s at (Pipe ts)) (all_piped (as_role (part_role s.role) s) at 1 ts) is
places-here f s at (Comb ts) is = places-hit f (seen s at (Comb ts)) (all_combed (as_role CombPart s) at 1 ts) is
places-here f s at (Farm n d w) is = places-hit f (seen s at (Farm n d w)) (all_in (farm_worker s) (child at 1) w) is
places-here f s at (OFarm n d w) is = places-hit f (seen s at (OFarm n d w)) (all_in (as_role OFarmWorker s) (child at 1) w) is
places-here f s at (A2a n l r m t) is =
    places-hit f (seen s at (A2a n l r m t)) (all_in (as_role LeftSet s) (child at 1) l ++ all_in (as_role (RightSet r) s) (child at 2) t) is
places-here f s at (Wrap n w p) is = places-hit f (seen s at (Wrap n w p)) (all_in (as_role WrapWorker s) (child at 1) w) is

-- the parts from one on
pub trees_of-drop : {N : Type 0} (ts : List (Net N)) (i : ℕ) (t : Net N) → i < length ts → t ≡ get_or ts i t
    → trees_of (drop i ts) ≡ more (tree_of t) (trees_of (drop (i + 1) ts))
trees_of-drop ts i t within is =
    ap trees_of (drop-cons ts i t within)
    ∙ ap (λ u. more (tree_of u) (trees_of (drop (suc i) ts))) (sym is)
    ∙ ap (λ k. more (tree_of t) (trees_of (drop k ts))) (sym (add-one i))

-- the parts of a network have room where it has and doesn't end the search
pub room_inside : {N : Type 0} (b : Behaviour N) (v : Version) (rule : Rule) (s : Spot) (at : List ℕ) (t : Tree N) (d : ℕ)
    → HasRoom rule (length at) (d + 1) → fails b v rule (seen s at t) ≡ false → HasRoom rule (length at + 1) d
room_inside b v rule s at t d room goes_on = record {
  by = elim room.by [
    | inl deep ↦
        let here : nat_eq (length at) 16 ≡ false = subst (λ r. fails b v r (seen s at t) ≡ false) deep.0 goes_on in
        inl (deep.0, grind (arith, here, deep.1))
    | inr fits ↦ inr (omega (arith, fits))
  ];
}

-- a part that isn't as deep has as much room
pub room_part : (rule : Rule) (n d e : ℕ) → HasRoom rule n d → e ≤ d → HasRoom rule n e
room_part rule n d e room less = record { by = elim room.by [ inl deep ↦ inl deep | inr fits ↦ inr (omega (arith, fits, less)) ] }

-- what the search for the first place goes by
pub ruleset search_steps = (tree_of-Pipe, tree_of-Comb, places-hit, places-miss, places-skip, places-found)
