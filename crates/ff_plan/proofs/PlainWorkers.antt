-- A worker of Plain nodes: it sends and rejects for each task what the network that it runs means for it.
use Rattle.std.proofs.Common.{◌≡◌, ℕ, true, List, [], ◌∷◌, ◌++◌, map, refl, sym, ap₂, ◌∙◌}
use Rattle.std.specs.List.{AllByRecursion, flat_map}
use Rattle.std.proofs.Math.Path.{fun_ext}
use Rattle.std.proofs.lemmas.Bool.{true≢false}
use Rattle.ff_rec.specs.Lines.{Rec}
use Rattle.ff_rec.specs.Weights.{Same}
use Rattle.ff_rec.proofs.WeightLaws.{Same-≡, Same-sym, Same-trans}
use Rattle.ff_node.specs.declared.class.Class.{Class}
use Rattle.ff_node.specs.declared.class.Class.TheVariants.{Plain}
use Rattle.ff_node.specs.Behaviour.{Behaviour, KeepsKind, node_rejected}
use Rattle.ff_node.specs.Classes.{ClassLaw}
use Rattle.ff_node.specs.Comb.{running, both, joined_class, joint_class, part_classes, comb_node, CombIsPipeline}
use Rattle.ff_node.specs.CombClassLaws.{comb_class_law}
use Rattle.ff_node.specs.OnListsLaws.{plain_goes_by_records}
use Rattle.ff_node.specs.OnLists.{GoesByRecords}
use Rattle.ff_net.specs.Good.{Good, ArePlain, EachPlain, PlainNode}
use Rattle.ff_net.specs.Meaning.{mean, mean_rejected}
use Rattle.ff_net.specs.Nodes.{nodes_in, nodes_through}
use Rattle.ff_net.specs.RuleTests.{is_node}
use Rattle.ff_net.specs.Tree.{Tree, Trees, Leaf, Pipe, Comb, Farm, OFarm, A2a, Wrap, none, more}
use Rattle.ff_plan.specs.Histories.{group_of}
use Rattle.ff_plan.proofs.Single.{IsLine, IsLine-leaf, IsLine-comb, node-group_of, node_rejected-group_of}

all-append : {A : Type 0} (P : A → Type 0) (xs ys : List A) → AllByRecursion P xs → AllByRecursion P ys → AllByRecursion P (xs ++ ys)
all-append P [] ys front back = back
all-append P (x ∷ xs) ys front back = (front.0, all-append P xs ys front.1 back)

-- several Plain nodes are Plain as one
joined_class-all : (c : Class) (cs : List Class) → c ≡ Plain → AllByRecursion (λ d. d ≡ Plain) cs → joined_class c cs ≡ Plain
joined_class-all c [] is all = is
joined_class-all c (d ∷ ds) is all = joined_class-all (both c d) ds (ap₂ both is all.0) all.1

module _ {N : Type 0} (b : Behaviour N) where
  mutual
    -- the nodes of a network whose leaves are all Plain
    plain_nodes : (t : Tree N) → ArePlain b t → AllByRecursion (λ o. b.class o ≡ Plain) (nodes_in t)
    plain_nodes (Leaf o) plain = (plain, tt)
    plain_nodes (Pipe ts) plain = plain_nodes_through ts plain
    plain_nodes (Comb ts) plain = plain_nodes_through ts plain
    plain_nodes (Farm n s w) plain = plain_nodes w plain
    plain_nodes (OFarm n s w) plain = plain_nodes w plain
    plain_nodes (A2a n l r k t) plain = all-append (λ o. b.class o ≡ Plain) (nodes_in l) (nodes_in t) (plain_nodes l plain.0) (plain_nodes t plain.1)
    plain_nodes (Wrap n w p) plain = plain_nodes w plain

    plain_nodes_through : (ts : Trees N) → EachPlain b ts → AllByRecursion (λ o. b.class o ≡ Plain) (nodes_through ts)
    plain_nodes_through none plain = tt
    plain_nodes_through (more t ts) plain =
        all-append (λ o. b.class o ≡ Plain) (nodes_in t) (nodes_through ts) (plain_nodes t plain.0) (plain_nodes_through ts plain.1)

  -- a leaf or a comb is its nodes one behind another
  pub IsLine-node : (m : ℕ) (t : Tree N) → is_node t ≡ true → Good b t → IsLine b m t
  IsLine-node m (Leaf o) is good = IsLine-leaf b m o
  IsLine-node m (Pipe ts) is good = absurd (true≢false (sym is))
  IsLine-node m (Comb ts) is good = IsLine-comb b m ts good.1
  IsLine-node m (Farm n s w) is good = absurd (true≢false (sym is))
  IsLine-node m (OFarm n s w) is good = absurd (true≢false (sym is))
  IsLine-node m (A2a n l r k t) is good = absurd (true≢false (sym is))
  IsLine-node m (Wrap n w p) is good = absurd (true≢false (sym is))

module _ {N : Type 0} (b : Behaviour N) (keeps : KeepsKind b) where
  opened_classes : (os : List N) → AllByRecursion (λ o. b.class o ≡ Plain) os → AllByRecursion (λ c. c ≡ Plain) (part_classes b (running (map b.opening os)))
  opened_classes [] all = tt
  opened_classes (o ∷ os) all = (keeps.class_of_opening o ∙ all.0, opened_classes os all.1)

  joint_class-all : (cs : List Class) → AllByRecursion (λ c. c ≡ Plain) cs → joint_class cs ≡ Plain
  joint_class-all [] all = refl
  joint_class-all (c ∷ cs) all = joined_class-all c cs all.0 all.1

  -- Plain nodes are Plain as one
  pub group_of-plain : (t : Tree N) → ArePlain b t → (comb_node b).class (group_of b t) ≡ Plain
  group_of-plain t plain = joint_class-all (part_classes b (group_of b t)) (opened_classes (nodes_in t) (plain_nodes b t plain))

-- what a worker sends and rejects for a task
abbrev pub worker_sends : {N : Type 0} → Behaviour N → Tree N → Rec → List Rec
worker_sends b w = (comb_node b).sends ((comb_node b).opening (group_of b w))

abbrev pub worker_rejects : {N : Type 0} → Behaviour N → Tree N → Rec → List Rec
worker_rejects b w = (comb_node b).rejects ((comb_node b).opening (group_of b w))

module _ {N : Type 0} (b : Behaviour N) (keeps : KeepsKind b) (law : (o : N) → ClassLaw b o (b.class o)) (combed : CombIsPipeline b)
    (m : ℕ) (w : Tree N) (plain : PlainNode b w) (good : Good b w) where
  by_records : GoesByRecords (comb_node b) (group_of b w)
  by_records = plain_goes_by_records (comb_node b) (comb_class_law b law) (group_of b w) (group_of-plain b keeps w plain.1)

  line : IsLine b m w
  line = IsLine-node b m w plain.0 good

  pub mean-worker : mean b m w ≡ flat_map (worker_sends b w)
  mean-worker = fun_ext (λ xs. line.mean xs ∙ sym (node-group_of b keeps combed w xs) ∙ (by_records xs).0)

  pub rejected-worker : (xs : List Rec) → node_rejected (comb_node b) (group_of b w) xs ≡ flat_map (worker_rejects b w) xs
  rejected-worker xs = (by_records xs).1

  pub mean_rejected-worker : (xs : List Rec) → Same (mean_rejected b m w xs) (flat_map (worker_rejects b w) xs)
  mean_rejected-worker xs =
      Same-trans (Same-≡ _ _ (line.rejected xs))
      (Same-trans (Same-sym (node_rejected-group_of b keeps combed w xs))
      (Same-≡ (node_rejected (comb_node b) (group_of b w) xs) (flat_map (worker_rejects b w) xs) (rejected-worker xs)))
