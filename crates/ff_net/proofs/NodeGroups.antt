-- The nodes of each leaf and each comb of a network without copies.
use Rattle.std.proofs.Common.{◌≡◌, ◌+◌, false, ◌||◌, List, [], ◌∷◌, ◌++◌, flat_map, length, refl, ap, ap₂, ◌∙◌, arith}
use Rattle.std.specs.List.{All}
use Rattle.std.proofs.lemmas.List.{append-nil, length-append}
use Rattle.std.proofs.lemmas.List.Concat.{flat_map-append}
use Rattle.std.proofs.lemmas.List.Elements.{All-nil, All-cons, All-append}
use Rattle.ff_node.specs.Behaviour.{Behaviour}
use Rattle.ff_net.specs.Tree.{Tree, Trees, Leaf, Pipe, Comb, Farm, OFarm, A2a, Wrap, none, more}
use Rattle.ff_net.specs.Counts.{count, units, all_units}
use Rattle.ff_net.specs.Forms.{has_copies, any_copies, has_wrap, any_wrap}
use Rattle.ff_net.specs.Good.{InRange, AreLeaves, Good, GoodParts}
use Rattle.ff_net.specs.Nodes.{nodes_in, nodes_through, node_groups, groups_through}
use Rattle.ff_net.proofs.Kept.{or-false, both-false}

module _ {N : Type 0} where
  mutual
    -- they are its nodes
    pub joined-node_groups : (t : Tree N) → has_copies t ≡ false → flat_map (λ g. g) (node_groups t) ≡ nodes_in t
    joined-node_groups (Leaf o) whole = refl
    joined-node_groups (Pipe ts) whole = joined-groups_through ts whole
    joined-node_groups (Comb ts) whole = append-nil (nodes_through ts)
    joined-node_groups (Farm n s w) whole = absurd (cc)
    joined-node_groups (OFarm n s w) whole = absurd (cc)
    joined-node_groups (A2a n l r m t) whole = absurd (cc)
    joined-node_groups (Wrap n w p) whole = absurd (cc)

    joined-groups_through : (ts : Trees N) → any_copies ts ≡ false → flat_map (λ g. g) (groups_through ts) ≡ nodes_through ts
    joined-groups_through none whole = refl
    joined-groups_through (more t ts) whole =
        let both = or-false (has_copies t) (any_copies ts) whole in
        flat_map-append (λ g. g) (node_groups t) (groups_through ts)
        ∙ ap₂ (λ front back. front ++ back) (joined-node_groups t both.0) (joined-groups_through ts both.1)

  mutual
    -- there are as many as units
    pub length-node_groups : (t : Tree N) → has_copies t ≡ false → length (node_groups t) ≡ units t
    length-node_groups (Leaf o) whole = refl
    length-node_groups (Pipe ts) whole = length-groups_through ts whole
    length-node_groups (Comb ts) whole = refl
    length-node_groups (Farm n s w) whole = absurd (cc)
    length-node_groups (OFarm n s w) whole = absurd (cc)
    length-node_groups (A2a n l r m t) whole = absurd (cc)
    length-node_groups (Wrap n w p) whole = absurd (cc)

    length-groups_through : (ts : Trees N) → any_copies ts ≡ false → length (groups_through ts) ≡ all_units ts
    length-groups_through none whole = refl
    length-groups_through (more t ts) whole =
        let both = or-false (has_copies t) (any_copies ts) whole in
        length-append (node_groups t) (groups_through ts)
        ∙ ap₂ (λ front back. front + back) (length-node_groups t both.0) (length-groups_through ts both.1)

  mutual
    -- no wrap stands where there are no copies
    pub has_wrap-whole : (t : Tree N) → has_copies t ≡ false → has_wrap t ≡ false
    has_wrap-whole (Leaf o) whole = refl
    has_wrap-whole (Pipe ts) whole = any_wrap-whole ts whole
    has_wrap-whole (Comb ts) whole = any_wrap-whole ts whole
    has_wrap-whole (Farm n s w) whole = absurd (cc)
    has_wrap-whole (OFarm n s w) whole = absurd (cc)
    has_wrap-whole (A2a n l r m t) whole = absurd (cc)
    has_wrap-whole (Wrap n w p) whole = absurd (cc)

    any_wrap-whole : (ts : Trees N) → any_copies ts ≡ false → any_wrap ts ≡ false
    any_wrap-whole none whole = refl
    any_wrap-whole (more t ts) whole =
        let both = or-false (has_copies t) (any_copies ts) whole in
        both-false (has_wrap t) (any_wrap ts) (has_wrap-whole t both.0) (any_wrap-whole ts both.1)

  -- leaves are as many nodes
  length-leaves : (ts : Trees N) → AreLeaves ts → length (nodes_through ts) ≡ count ts
  length-leaves none leaves = refl
  length-leaves (more (Leaf o) ts) leaves = omega (arith, length-leaves ts leaves.1)
  length-leaves (more (Pipe us) ts) leaves = absurd (cc leaves.0)
  length-leaves (more (Comb us) ts) leaves = absurd (cc leaves.0)
  length-leaves (more (Farm n s w) ts) leaves = absurd (cc leaves.0)
  length-leaves (more (OFarm n s w) ts) leaves = absurd (cc leaves.0)
  length-leaves (more (A2a n l r m t) ts) leaves = absurd (cc leaves.0)
  length-leaves (more (Wrap n w p) ts) leaves = absurd (cc leaves.0)

  module _ (b : Behaviour N) where
    mutual
      -- each of them has at least one node and not too many
      pub InRange-node_groups : (t : Tree N) → Good b t → All (λ g. InRange (length g)) (node_groups t)
      InRange-node_groups (Leaf o) good = All-cons (λ g. InRange (length g)) (o ∷ []) [] (omega arith, omega arith) (All-nil (λ g. InRange (length g)))
      InRange-node_groups (Pipe ts) good = InRange-groups_through ts good.1
      InRange-node_groups (Comb ts) good =
          let many = length-leaves ts good.1 in
          All-cons (λ g. InRange (length g)) (nodes_through ts) [] (omega (arith, many, good.0.0), omega (arith, many, good.0.1)) (All-nil (λ g. InRange (length g)))
      InRange-node_groups (Farm n s w) good = All-nil (λ g. InRange (length g))
      InRange-node_groups (OFarm n s w) good = All-nil (λ g. InRange (length g))
      InRange-node_groups (A2a n l r m t) good = All-nil (λ g. InRange (length g))
      InRange-node_groups (Wrap n w p) good = All-nil (λ g. InRange (length g))

      InRange-groups_through : (ts : Trees N) → GoodParts b ts → All (λ g. InRange (length g)) (groups_through ts)
      InRange-groups_through none good = All-nil (λ g. InRange (length g))
      InRange-groups_through (more t ts) good =
          All-append (λ g. InRange (length g)) (node_groups t) (groups_through ts) (InRange-node_groups t good.0) (InRange-groups_through ts good.1)
