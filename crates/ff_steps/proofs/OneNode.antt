-- A network of one node rejects what the node rejects, in its order, and so does its unit.
use Rattle.std.proofs.Common.{◌≡◌, ℕ, ◌<◌, ◌≤◌, Bool, true, false, if◌then◌else◌, List, [], ◌∷◌, ◌++◌, length, map, flat_map, get_or, refl, sym, ap, ap₂, ◌∙◌, append_assoc, append-nil, arith}
use Rattle.std.proofs.lemmas.Bool.{true≢false}
use Rattle.std.proofs.lemmas.List.{length-append}
use Rattle.ff_rec.specs.Lines.{Rec}
use Rattle.ff_node.specs.Behaviour.{Behaviour, KeepsKind, node, node_rejected, rejected_from, pipeline, pipeline_rejected}
use Rattle.ff_node.specs.Comb.{part, comb_node, running, total_rejects}
use Rattle.ff_net.proofs.Kept.{or-false}
use Rattle.ff_net.proofs.NodeGroups.{joined-node_groups, InRange-node_groups}
use Rattle.ff_net.specs.Forms.{has_copies, any_copies}
use Rattle.ff_net.specs.Good.{Good}
use Rattle.ff_net.specs.Meaning.{mean, mean_through, mean_rejected, mean_rejected_through}
use Rattle.ff_net.specs.Nodes.{nodes_in, nodes_through, node_groups}
use Rattle.ff_net.specs.Tree.{Tree, Trees, Leaf, Pipe, Comb, Farm, OFarm, A2a, Wrap, none, more}

module _ {N : Type 0} (b : Behaviour N) where
  -- nodes behind other nodes
  pipeline-append : (os ps : List N) (xs : List Rec) → pipeline b (os ++ ps) xs ≡ pipeline b ps (pipeline b os xs)
  pipeline-append [] ps xs = refl
  pipeline-append (o ∷ os) ps xs = pipeline-append os ps (node b o xs)

  pipeline_rejected-append : (os ps : List N) (xs : List Rec) → pipeline_rejected b (os ++ ps) xs ≡ pipeline_rejected b os xs ++ pipeline_rejected b ps (pipeline b os xs)
  pipeline_rejected-append [] ps xs = refl
  pipeline_rejected-append (o ∷ os) ps xs =
      ap (λ ys. node_rejected b o xs ++ ys) (pipeline_rejected-append os ps (node b o xs))
      ∙ sym (append_assoc (node_rejected b o xs) (pipeline_rejected b os (node b o xs)) (pipeline_rejected b ps (pipeline b os (node b o xs))))

  module _ (m : ℕ) where
    mutual
      -- a network without copies is its nodes one behind another
      mean-nodes : (t : Tree N) → has_copies t ≡ false → (xs : List Rec) → mean b m t xs ≡ pipeline b (nodes_in t) xs
      mean-nodes (Leaf o) free xs = refl
      mean-nodes (Pipe ts) free xs = mean_through-nodes ts free xs
      mean-nodes (Comb ts) free xs = mean_through-nodes ts free xs
      mean-nodes (Farm n s w) free xs = absurd (true≢false free)
      mean-nodes (OFarm n s w) free xs = absurd (true≢false free)
      mean-nodes (A2a n l r k t) free xs = absurd (true≢false free)
      mean-nodes (Wrap n w p) free xs = absurd (true≢false free)

      mean_through-nodes : (ts : Trees N) → any_copies ts ≡ false → (xs : List Rec) → mean_through b m ts xs ≡ pipeline b (nodes_through ts) xs
      mean_through-nodes none free xs = refl
      mean_through-nodes (more t ts) free xs =
          let both = or-false (has_copies t) (any_copies ts) free in
          mean_through-nodes ts both.1 (mean b m t xs) ∙ ap (pipeline b (nodes_through ts)) (mean-nodes t both.0 xs) ∙ sym (pipeline-append (nodes_in t) (nodes_through ts) xs)

    mutual
      pub mean_rejected-nodes : (t : Tree N) → has_copies t ≡ false → (xs : List Rec) → mean_rejected b m t xs ≡ pipeline_rejected b (nodes_in t) xs
      mean_rejected-nodes (Leaf o) free xs = sym (append-nil (node_rejected b o xs))
      mean_rejected-nodes (Pipe ts) free xs = mean_rejected_through-nodes ts free xs
      mean_rejected-nodes (Comb ts) free xs = mean_rejected_through-nodes ts free xs
      mean_rejected-nodes (Farm n s w) free xs = absurd (true≢false free)
      mean_rejected-nodes (OFarm n s w) free xs = absurd (true≢false free)
      mean_rejected-nodes (A2a n l r k t) free xs = absurd (true≢false free)
      mean_rejected-nodes (Wrap n w p) free xs = absurd (true≢false free)

      mean_rejected_through-nodes : (ts : Trees N) → any_copies ts ≡ false → (xs : List Rec) → mean_rejected_through b m ts xs ≡ pipeline_rejected b (nodes_through ts) xs
      mean_rejected_through-nodes none free xs = refl
      mean_rejected_through-nodes (more t ts) free xs =
          let both = or-false (has_copies t) (any_copies ts) free in
          ap₂ (λ here rest. here ++ rest) (mean_rejected-nodes t both.0 xs)
          (mean_rejected_through-nodes ts both.1 (mean b m t xs) ∙ ap (pipeline_rejected b (nodes_through ts)) (mean-nodes t both.0 xs))
          ∙ sym (pipeline_rejected-append (nodes_in t) (nodes_through ts) xs)

  -- a comb of one node rejects as the node does
  rejected_from-one : (s : N) (xs : List Rec) → rejected_from (comb_node b) (part s false ∷ []) xs ≡ rejected_from b s xs
  rejected_from-one s [] = append-nil (b.last_rejects s)
  rejected_from-one s (x ∷ xs) = by (b.ends s x) (rejected_from-one (b.next s x) xs)
    where
      by : (e : Bool) → rejected_from (comb_node b) (part (b.next s x) false ∷ []) xs ≡ rejected_from b (b.next s x) xs
          → ((b.rejects s x ++ (if e then b.last_rejects (b.next s x) else [])) ++ [])
          ++ (if (if e then part (b.opening (b.next s x)) true else part (b.next s x) false).ended
          then total_rejects b ((if e then part (b.opening (b.next s x)) true else part (b.next s x) false) ∷ []) []
          else rejected_from (comb_node b) ((if e then part (b.opening (b.next s x)) true else part (b.next s x) false) ∷ []) xs)
          ≡ b.rejects s x ++ (if e then b.last_rejects (b.next s x) else rejected_from b (b.next s x) xs)
      by true rest =
          append-nil ((b.rejects s x ++ b.last_rejects (b.next s x)) ++ []) ∙ append-nil (b.rejects s x ++ b.last_rejects (b.next s x))
      by false rest = ap₂ (λ here there. here ++ there) (append-nil (b.rejects s x ++ []) ∙ append-nil (b.rejects s x)) rest

  module _ (kind : KeepsKind b) (t : Tree N) (free : has_copies t ≡ false) where
    -- the unit of one node rejects what the network rejects
    pub node_rejected-one : (nodes : List N) → nodes_in t ≡ nodes → length nodes ≡ 1 → (m : ℕ) (xs : List Rec)
        → node_rejected (comb_node b) (running (map b.opening (nodes_in t))) xs ≡ mean_rejected b m t xs
    node_rejected-one [] are one m xs = absurd (omega (arith, one))
    node_rejected-one (o ∷ p ∷ nodes) are one m xs = absurd (omega (arith, one))
    node_rejected-one (o ∷ []) are one m xs =
        ap (λ nodes. node_rejected (comb_node b) (running (map b.opening nodes)) xs) are
        ∙ rejected_from-one (b.opening (b.opening o)) xs
        ∙ ap (λ s. rejected_from b s xs) (kind.opening_of_opening o)
        ∙ sym (append-nil (node_rejected b o xs))
        ∙ ap (λ nodes. pipeline_rejected b nodes xs) (sym are)
        ∙ sym (mean_rejected-nodes m t free xs)

    -- one node has one unit
    pub one_group : Good b t → length (nodes_in t) ≡ 1 → length (node_groups t) ≡ 1
    one_group good one = of (node_groups t) (ap length (joined-node_groups t free) ∙ one) (λ k low. (InRange-node_groups b t good k [] low).0)
      where
        of : (groups : List (List N)) → length (flat_map (λ g. g) groups) ≡ 1 → ((k : ℕ) → k < length groups → 1 ≤ length (get_or groups k [])) → length groups ≡ 1
        of [] one each = absurd (omega (arith, one))
        of (g ∷ []) one each = refl
        of (g ∷ h ∷ groups) one each =
            absurd (omega (arith, one, each 0 (omega arith), each 1 (omega arith), length-append g (h ++ flat_map (λ x. x) groups), length-append h (flat_map (λ x. x) groups)))
