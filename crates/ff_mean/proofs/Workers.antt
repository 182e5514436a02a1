-- The worker of a wrap: one Plain node, or several that run as one.
use Rattle.std.proofs.Common.{◌≡◌, ℕ, ◌<◌, ◌≤◌, true, false, List, [], ◌∷◌, ◌++◌, map, length, refl, sym, ap, ◌∙◌, subst, length-append, arith}
use Rattle.std.proofs.lemmas.List.{length-map}
use Rattle.std.specs.Prelude.{Option}
use Rattle.std.specs.List.{AllByRecursion}
use Rattle.ff_rec.specs.Lines.{Rec}
use Rattle.ff_rec.specs.Weights.{Same}
use Rattle.ff_rec.proofs.WeightLaws.{Same-≡, Same-trans}
use Rattle.ff_node.specs.declared.class.Class.TheVariants.{Plain}
use Rattle.ff_node.specs.Behaviour.{Behaviour, KeepsKind, node, node_rejected, sent_from, rejected_from, pipeline, pipeline_rejected}
use Rattle.ff_node.specs.Comb.{Part, running, nodes_of, joined_class, both, joint_class, part_classes, comb_node}
use Rattle.ff_node.specs.CombLaws.{comb-is_pipeline}
use Rattle.ff_node.specs.Sends.{Sent}
use Rattle.ff_net.specs.declared.net.Test.{Test}
use Rattle.ff_net.specs.Counts.{count}
use Rattle.ff_net.specs.Forms.{has_wrap, any_wrap}
use Rattle.ff_net.specs.Good.{Good, ArePlain, EachPlain, AreLeaves, PlainNode, InRange}
use Rattle.ff_net.specs.Meaning.{mean, mean_rejected}
use Rattle.ff_net.specs.RuleTests.{is_leaf}
use Rattle.ff_net.specs.Tree.{Tree, Trees, Leaf, Pipe, Comb, Farm, OFarm, A2a, Wrap, none, more}
use Rattle.ff_net.proofs.Kept.{both-false}
use Rattle.ff_mean.specs.Gathering.{HasRunRounds}
use Rattle.ff_net.specs.Nodes.{nodes_in, nodes_through}
use Rattle.ff_mean.proofs.Groups.{nodes_of-running}
use Rattle.ff_mean.proofs.Pipelines.{is_pipeline, pipeline-opened, pipeline_rejected-opened}
use Rattle.ff_mean.proofs.RoundLaws.{HasRunRounds-≡}

module _ {N : Type 0} (b : Behaviour N) where
  -- what a leaf is
  leaf_of : (t : Tree N) → is_leaf t ≡ true → (o : N) × (t ≡ Leaf o)
  leaf_of (Leaf o) h = (o, refl)
  leaf_of (Pipe ts) h = absurd (cc)
  leaf_of (Comb ts) h = absurd (cc)
  leaf_of (Farm n s w) h = absurd (cc)
  leaf_of (OFarm n s w) h = absurd (cc)
  leaf_of (A2a n l r k t) h = absurd (cc)
  leaf_of (Wrap n w p) h = absurd (cc)

  -- leaves are as many nodes
  length-leaves : (ts : Trees N) → AreLeaves ts → length (nodes_through ts) ≡ count ts
  length-leaves none h = refl
  length-leaves (more t ts) h =
      let one : length (nodes_in t) ≡ 1 = ap (λ (l : Tree N). length (nodes_in l)) (leaf_of t h.0).1 in
      omega (arith, one, length-append (nodes_in t) (nodes_through ts), length-leaves ts h.1)

  -- no wrap stands in one
  any_wrap-leaves : (ts : Trees N) → AreLeaves ts → any_wrap ts ≡ false
  any_wrap-leaves none h = refl
  any_wrap-leaves (more t ts) h = both-false (has_wrap t) (any_wrap ts) (ap has_wrap (leaf_of t h.0).1) (any_wrap-leaves ts h.1)

  abbrev AllPlain : List N → Type 0
  AllPlain os = AllByRecursion (λ o. b.class o ≡ Plain) os

  -- all of them are Plain
  plain_leaves : (ts : Trees N) → AreLeaves ts → EachPlain b ts → AllPlain (nodes_through ts)
  plain_leaves none h plain = tt
  plain_leaves (more t ts) h plain =
      let leaf = leaf_of t h.0 in
      let here : b.class leaf.0 ≡ Plain = subst (ArePlain b) leaf.1 plain.0 in
      subst (λ (l : Tree N). AllPlain (nodes_in l ++ nodes_through ts)) (sym leaf.1) (here, plain_leaves ts h.1 plain.1)

  -- the nodes of a worker
  pub worker_size : (t : Tree N) → PlainNode b t → Good b t → InRange (length (nodes_in t))
  worker_size (Leaf o) plain good = (omega arith, omega arith)
  worker_size (Comb ts) plain good = subst InRange (sym (length-leaves ts good.1)) good.0
  worker_size (Pipe ts) plain good = absurd (let h = plain.0 in cc)
  worker_size (Farm n s w) plain good = absurd (let h = plain.0 in cc)
  worker_size (OFarm n s w) plain good = absurd (let h = plain.0 in cc)
  worker_size (A2a n l r k t) plain good = absurd (let h = plain.0 in cc)
  worker_size (Wrap n w p) plain good = absurd (let h = plain.0 in cc)

  worker_wraps : (t : Tree N) → PlainNode b t → Good b t → has_wrap t ≡ false
  worker_wraps (Leaf o) plain good = refl
  worker_wraps (Comb ts) plain good = any_wrap-leaves ts good.1
  worker_wraps (Pipe ts) plain good = absurd (let h = plain.0 in cc)
  worker_wraps (Farm n s w) plain good = absurd (let h = plain.0 in cc)
  worker_wraps (OFarm n s w) plain good = absurd (let h = plain.0 in cc)
  worker_wraps (A2a n l r k t) plain good = absurd (let h = plain.0 in cc)
  worker_wraps (Wrap n w p) plain good = absurd (let h = plain.0 in cc)

  worker_plain : (t : Tree N) → PlainNode b t → Good b t → AllPlain (nodes_in t)
  worker_plain (Leaf o) plain good = (plain.1, tt)
  worker_plain (Comb ts) plain good = plain_leaves ts good.1 plain.1
  worker_plain (Pipe ts) plain good = absurd (let h = plain.0 in cc)
  worker_plain (Farm n s w) plain good = absurd (let h = plain.0 in cc)
  worker_plain (OFarm n s w) plain good = absurd (let h = plain.0 in cc)
  worker_plain (A2a n l r k t) plain good = absurd (let h = plain.0 in cc)
  worker_plain (Wrap n w p) plain good = absurd (let h = plain.0 in cc)

  module _ (keeps : KeepsKind b) where
    joined-plain : (os : List N) → AllPlain os → joined_class Plain (part_classes b (running (map b.opening os))) ≡ Plain
    joined-plain [] plain = refl
    joined-plain (o ∷ os) plain =
        ap (λ c. joined_class (both Plain c) (part_classes b (running (map b.opening os)))) (keeps.class_of_opening o ∙ plain.0) ∙ joined-plain os plain.1

    joint-plain : (os : List N) → AllPlain os → joint_class (part_classes b (running (map b.opening os))) ≡ Plain
    joint-plain [] plain = refl
    joint-plain (o ∷ os) plain =
        ap (λ c. joined_class c (part_classes b (running (map b.opening os)))) (keeps.class_of_opening o ∙ plain.0) ∙ joined-plain os plain.1

    module _ (t : Tree N) (os : List N) (are : os ≡ map b.opening (nodes_in t)) (plain : PlainNode b t) (good : Good b t) where
      -- a comb can be made of them
      pub comb_size : (0 < length os) × (length os ≤ 64)
      comb_size =
          let size = worker_size t plain good in
          let same : length os ≡ length (nodes_in t) = ap length are ∙ length-map (nodes_in t) b.opening in
          (omega (arith, size.0, same), omega (arith, size.1, same))

      -- which is Plain
      pub comb_class : (ps : List (Part N)) → ps ≡ running os → (comb_node b).class ps ≡ Plain
      comb_class ps is =
          ap (λ (qs : List (Part N)). joint_class (part_classes b qs)) is
          ∙ ap (λ (l : List N). joint_class (part_classes b (running l))) are
          ∙ joint-plain (nodes_in t) (worker_plain t plain good)

      -- and means what the worker does
      pub HasRunRounds-comb : (ps : List (Part N)) → ps ≡ running os → (m : ℕ) (p : Test) (xs : List Rec) (before after : Sent) (answer : Option (List Rec))
          → HasRunRounds (node (comb_node b) ps) (node_rejected (comb_node b) ps) p m xs before after answer
          → HasRunRounds (mean b m t) (mean_rejected b m t) p m xs before after answer
      HasRunRounds-comb ps is m p xs before after answer ran =
          let as_line = is_pipeline b t (worker_wraps t plain good) in
          let same_nodes : nodes_of ps ≡ map b.opening (nodes_in t) = ap (λ (qs : List (Part N)). nodes_of qs) is ∙ nodes_of-running os ∙ are in
          let sends : (us : List Rec) → node (comb_node b) ps us ≡ mean b m t us =
          λ us. (comb-is_pipeline b ps us).0 ∙ ap (λ l. pipeline b l us) same_nodes ∙ pipeline-opened b keeps (nodes_in t) us ∙ sym (as_line.mean m us) in
          let loses : (us : List Rec) → pipeline_rejected b (nodes_of ps) us ≡ mean_rejected b m t us =
          λ us. ap (λ l. pipeline_rejected b l us) same_nodes ∙ pipeline_rejected-opened b keeps (nodes_in t) us ∙ sym (as_line.rejected m us) in
          let alike : (us : List Rec) → Same (node_rejected (comb_node b) ps us) (mean_rejected b m t us) =
          λ us. Same-trans (comb-is_pipeline b ps us).1 (Same-≡ (pipeline_rejected b (nodes_of ps) us) (mean_rejected b m t us) (loses us)) in
          HasRunRounds-≡ (node (comb_node b) ps) (mean b m t) p sends (node_rejected (comb_node b) ps) (mean_rejected b m t) alike m xs before after answer ran

    -- a leaf means what its node does
    pub HasRunRounds-leaf : (t : Tree N) (o s : N) (m : ℕ) (p : Test) (xs : List Rec) (before after : Sent) (answer : Option (List Rec)) → t ≡ Leaf o → s ≡ b.opening o
        → HasRunRounds (node b s) (node_rejected b s) p m xs before after answer → HasRunRounds (mean b m t) (mean_rejected b m t) p m xs before after answer
    HasRunRounds-leaf t o s m p xs before after answer leaf is ran =
        let kind : b.opening s ≡ b.opening o = ap b.opening is ∙ keeps.opening_of_opening o in
        subst (λ (u : Tree N). HasRunRounds (mean b m u) (mean_rejected b m u) p m xs before after answer) (sym leaf)
        (HasRunRounds-≡ (node b s) (node b o) p (λ us. ap (λ u. sent_from b u us) kind) (node_rejected b s) (node_rejected b o)
        (λ us. Same-≡ (node_rejected b s us) (node_rejected b o us) (ap (λ u. rejected_from b u us) kind)) m xs before after answer ran)
