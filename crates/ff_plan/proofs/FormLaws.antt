-- What the form of a network says of it: where no wrap stands, what keeps the order, and that Plain networks are steady.
use Rattle.std.proofs.Common.{◌≡◌, ◌≢◌, Bool, true, false, List, refl, sym, ◌∙◌}
use Rattle.std.proofs.lemmas.Bool.{true≢false, false≢true, or_parts, or_from, and_parts}
use Rattle.ff_rec.specs.Lines.{Rec}
use Rattle.ff_rec.specs.Weights.{Same}
use Rattle.ff_rec.proofs.WeightLaws.{Same-≡}
use Rattle.ff_node.specs.declared.class.Class.TheVariants.{Plain, Ordered}
use Rattle.ff_node.specs.Behaviour.{Behaviour}
use Rattle.ff_net.specs.Forms.{has_wrap, any_wrap, is_unordered, any_unordered, has_copies, any_copies}
use Rattle.ff_net.specs.Good.{ArePlain, EachPlain, Steady, SteadyParts, AreLeaves, Good, GoodParts}
use Rattle.ff_net.specs.Meaning.{SameInOrder}
use Rattle.ff_net.specs.RuleTests.{is_leaf, is_node, are_nodes, is_pipeline}
use Rattle.ff_net.specs.Tree.{Tree, Trees, Leaf, Pipe, Comb, Farm, OFarm, A2a, Wrap, none, more}

-- records in the order that is asked for are the same records
pub same_in_order : (s : Bool) (xs ys : List Rec) → SameInOrder s xs ys → Same xs ys
same_in_order true xs ys is = Same-≡ xs ys (sym is)
same_in_order false xs ys same = same

-- the two classes differ
plain_other : Plain ≢ Ordered
plain_other is = cc is

module _ {N : Type 0} where
  mutual
    -- an ordered network has no wrap
    pub ordered_no_wrap : (t : Tree N) → is_unordered t ≡ false → has_wrap t ≡ false
    ordered_no_wrap (Leaf o) ordered = refl
    ordered_no_wrap (Pipe ts) ordered = ordered_no_wraps ts ordered
    ordered_no_wrap (Comb ts) ordered = ordered_no_wraps ts ordered
    ordered_no_wrap (Farm n s w) ordered = absurd (true≢false ordered)
    ordered_no_wrap (OFarm n s w) ordered = ordered_no_wrap w ordered
    ordered_no_wrap (A2a n l r k t) ordered = absurd (true≢false ordered)
    ordered_no_wrap (Wrap n w p) ordered = ordered

    pub ordered_no_wraps : (ts : Trees N) → any_unordered ts ≡ false → any_wrap ts ≡ false
    ordered_no_wraps none ordered = refl
    ordered_no_wraps (more t ts) ordered =
        let parts = or_parts (is_unordered t) (any_unordered ts) ordered in
        or_from (has_wrap t) (any_wrap ts) (ordered_no_wrap t parts.0) (ordered_no_wraps ts parts.1)

  mutual
    -- a network without copies is ordered
    pub no_copies_ordered : (t : Tree N) → has_copies t ≡ false → is_unordered t ≡ false
    no_copies_ordered (Leaf o) free = refl
    no_copies_ordered (Pipe ts) free = no_copies_all_ordered ts free
    no_copies_ordered (Comb ts) free = no_copies_all_ordered ts free
    no_copies_ordered (Farm n s w) free = free
    no_copies_ordered (OFarm n s w) free = absurd (true≢false free)
    no_copies_ordered (A2a n l r k t) free = free
    no_copies_ordered (Wrap n w p) free = free

    pub no_copies_all_ordered : (ts : Trees N) → any_copies ts ≡ false → any_unordered ts ≡ false
    no_copies_all_ordered none free = refl
    no_copies_all_ordered (more t ts) free =
        let parts = or_parts (has_copies t) (any_copies ts) free in
        or_from (is_unordered t) (any_unordered ts) (no_copies_ordered t parts.0) (no_copies_all_ordered ts parts.1)

  pub no_copies_no_wrap : (t : Tree N) → has_copies t ≡ false → has_wrap t ≡ false
  no_copies_no_wrap t free = ordered_no_wrap t (no_copies_ordered t free)

  -- leaves are not copied, nor are nodes and lines of nodes
  leaf_no_copies : (t : Tree N) → is_leaf t ≡ true → has_copies t ≡ false
  leaf_no_copies (Leaf o) leaf = refl
  leaf_no_copies (Pipe ts) leaf = absurd (false≢true leaf)
  leaf_no_copies (Comb ts) leaf = absurd (false≢true leaf)
  leaf_no_copies (Farm n s w) leaf = absurd (false≢true leaf)
  leaf_no_copies (OFarm n s w) leaf = absurd (false≢true leaf)
  leaf_no_copies (A2a n l r k t) leaf = absurd (false≢true leaf)
  leaf_no_copies (Wrap n w p) leaf = absurd (false≢true leaf)

  leaves_no_copies : (ts : Trees N) → AreLeaves ts → any_copies ts ≡ false
  leaves_no_copies none leaves = refl
  leaves_no_copies (more t ts) leaves = or_from (has_copies t) (any_copies ts) (leaf_no_copies t leaves.0) (leaves_no_copies ts leaves.1)

module _ {N : Type 0} (b : Behaviour N) where
  pub node_no_copies : (t : Tree N) → is_node t ≡ true → Good b t → has_copies t ≡ false
  node_no_copies (Leaf o) node good = refl
  node_no_copies (Pipe ts) node good = absurd (false≢true node)
  node_no_copies (Comb ts) node good = leaves_no_copies ts good.1
  node_no_copies (Farm n s w) node good = absurd (false≢true node)
  node_no_copies (OFarm n s w) node good = absurd (false≢true node)
  node_no_copies (A2a n l r k t) node good = absurd (false≢true node)
  node_no_copies (Wrap n w p) node good = absurd (false≢true node)

  nodes_no_copies : (ts : Trees N) → are_nodes ts ≡ true → GoodParts b ts → any_copies ts ≡ false
  nodes_no_copies none nodes good = refl
  nodes_no_copies (more t ts) nodes good =
      let both = and_parts (is_node t) (are_nodes ts) nodes in
      or_from (has_copies t) (any_copies ts) (node_no_copies t both.0 good.0) (nodes_no_copies ts both.1 good.1)

  pub pipeline_no_copies : (t : Tree N) → is_pipeline t ≡ true → Good b t → has_copies t ≡ false
  pipeline_no_copies (Leaf o) line good = refl
  pipeline_no_copies (Pipe ts) line good = nodes_no_copies ts line good.1
  pipeline_no_copies (Comb ts) line good = leaves_no_copies ts good.1
  pipeline_no_copies (Farm n s w) line good = absurd (false≢true line)
  pipeline_no_copies (OFarm n s w) line good = absurd (false≢true line)
  pipeline_no_copies (A2a n l r k t) line good = absurd (false≢true line)
  pipeline_no_copies (Wrap n w p) line good = absurd (false≢true line)

  -- so no wrap stands in them
  pub node_no_wrap : (t : Tree N) → is_node t ≡ true → Good b t → has_wrap t ≡ false
  node_no_wrap t node good = no_copies_no_wrap t (node_no_copies t node good)

  pub pipeline_no_wrap : (t : Tree N) → is_pipeline t ≡ true → Good b t → has_wrap t ≡ false
  pipeline_no_wrap t line good = no_copies_no_wrap t (pipeline_no_copies t line good)

  mutual
    -- a Plain network has no Ordered node
    pub plain_steady : (t : Tree N) → ArePlain b t → Steady b t
    plain_steady (Leaf o) plain = λ ordered. plain_other (sym plain ∙ ordered)
    plain_steady (Pipe ts) plain = plain_all_steady ts plain
    plain_steady (Comb ts) plain = plain_all_steady ts plain
    plain_steady (Farm n s w) plain = plain_steady w plain
    plain_steady (OFarm n s w) plain = plain_steady w plain
    plain_steady (A2a n l r k t) plain = (plain_steady l plain.0, plain_steady t plain.1)
    plain_steady (Wrap n w p) plain = plain_steady w plain

    pub plain_all_steady : (ts : Trees N) → EachPlain b ts → SteadyParts b ts
    plain_all_steady none plain = tt
    plain_all_steady (more t ts) plain = (plain_steady t plain.0, plain_all_steady ts plain.1)
