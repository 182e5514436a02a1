-- The law of one node, and of a comb: a stage sends and rejects what its nodes do one behind another.
use Rattle.std.proofs.Common.{◌≡◌, ℕ, List, [], ◌∷◌, ◌++◌, map, refl, sym, ap, ◌∙◌, subst, append-nil, inl}
use Rattle.ff_rec.specs.Lines.{Rec}
use Rattle.ff_rec.specs.Streams.{at, carried, items}
use Rattle.ff_rec.specs.Weights.{Same}
use Rattle.ff_rec.proofs.WeightLaws.{Same-≡, Same-sym, Same-trans}
use Rattle.ff_node.specs.Behaviour.{Behaviour, KeepsKind, node, node_rejected, pipeline, pipeline_rejected, sent_from, rejected_from}
use Rattle.ff_node.specs.Comb.{running, nodes_of, comb_node, CombIsPipeline}
use Rattle.ff_node.specs.Fits.{FitsStage}
use Rattle.ff_net.specs.Forms.{is_ordered}
use Rattle.ff_net.specs.Good.{AreLeaves}
use Rattle.ff_net.specs.Logs.{Event}
use Rattle.ff_net.specs.Meaning.{mean, mean_through, mean_rejected, mean_rejected_through, Fine, FineThrough}
use Rattle.ff_net.specs.Nodes.{nodes_in, nodes_through}
use Rattle.ff_net.specs.Tree.{Tree, Trees, Leaf, Pipe, Comb, Farm, OFarm, A2a, Wrap, none, more}
use Rattle.ff_plan.specs.declared.kind.UnitKind.TheVariants.{Stage}
use Rattle.ff_plan.specs.Histories.{group_of}
use Rattle.ff_plan.specs.Rows.{Laid, laid}
use Rattle.ff_plan.proofs.Carries.{in_order-≡}
pub use Rattle.ff_plan.proofs.Messages.{items-carried}
use Rattle.ff_plan.proofs.Opens.{View, IsOpen, Known, Outcome, LawOf}
use Rattle.ff_plan.proofs.UnitLists.{AllOn-one}

-- a network means its nodes one behind another, and no wrap is over its limit
pub record IsLine {N : Type 0} (b : Behaviour N) (m : ℕ) (t : Tree N) : Type 0 where
  pub fine : (xs : List Rec) → Fine b m t xs
  pub mean : (xs : List Rec) → mean b m t xs ≡ pipeline b (nodes_in t) xs
  pub rejected : (xs : List Rec) → mean_rejected b m t xs ≡ pipeline_rejected b (nodes_in t) xs

nodes_of-running : {N : Type 0} (os : List N) → nodes_of (running os) ≡ os
nodes_of-running [] = refl
nodes_of-running (o ∷ os) = ap (λ rest. o ∷ rest) (nodes_of-running os)

-- leaves one behind another
module _ {N : Type 0} (b : Behaviour N) (m : ℕ) where
  line_through : (ts : Trees N) → AreLeaves ts → (xs : List Rec)
      → FineThrough b m ts xs × (mean_through b m ts xs ≡ pipeline b (nodes_through ts) xs) × (mean_rejected_through b m ts xs ≡ pipeline_rejected b (nodes_through ts) xs)
  line_through none leaves xs = (tt, refl, refl)
  line_through (more (Leaf o) ts) leaves xs =
      let rest = line_through ts leaves.1 (node b o xs) in
      ((tt, rest.0), rest.1, ap (λ ys. node_rejected b o xs ++ ys) rest.2)
  line_through (more (Pipe us) ts) leaves xs = absurd (cc leaves.0)
  line_through (more (Comb us) ts) leaves xs = absurd (cc leaves.0)
  line_through (more (Farm n s w) ts) leaves xs = absurd (cc leaves.0)
  line_through (more (OFarm n s w) ts) leaves xs = absurd (cc leaves.0)
  line_through (more (A2a n l r k t) ts) leaves xs = absurd (cc leaves.0)
  line_through (more (Wrap n w p) ts) leaves xs = absurd (cc leaves.0)

  pub IsLine-leaf : (o : N) → IsLine b m (Leaf o)
  IsLine-leaf o = record { fine = λ xs. tt; mean = λ xs. refl; rejected = λ xs. sym (append-nil (node_rejected b o xs)) }

  pub IsLine-comb : (ts : Trees N) → AreLeaves ts → IsLine b m (Comb ts)
  IsLine-comb ts leaves = record {
    fine = λ xs. (line_through ts leaves xs).0;
    mean = λ xs. (line_through ts leaves xs).1;
    rejected = λ xs. (line_through ts leaves xs).2;
  }

module _ {N : Type 0} (b : Behaviour N) (keeps : KeepsKind b) (combed : CombIsPipeline b) where
  -- nodes in their opening states are the same nodes
  pipeline-opening : (os : List N) (xs : List Rec) → pipeline b (map b.opening os) xs ≡ pipeline b os xs
  pipeline-opening [] xs = refl
  pipeline-opening (o ∷ os) xs =
      ap (λ s. pipeline b (map b.opening os) (sent_from b s xs)) (keeps.opening_of_opening o) ∙ pipeline-opening os (node b o xs)

  pipeline_rejected-opening : (os : List N) (xs : List Rec) → pipeline_rejected b (map b.opening os) xs ≡ pipeline_rejected b os xs
  pipeline_rejected-opening [] xs = refl
  pipeline_rejected-opening (o ∷ os) xs =
      ap (λ s. rejected_from b s xs ++ pipeline_rejected b (map b.opening os) (sent_from b s xs)) (keeps.opening_of_opening o)
      ∙ ap (λ ys. node_rejected b o xs ++ ys) (pipeline_rejected-opening os (node b o xs))

  -- the nodes of a stage or a worker, as one, are its nodes one behind another
  pub node-group_of : (t : Tree N) (xs : List Rec) → node (comb_node b) (group_of b t) xs ≡ pipeline b (nodes_in t) xs
  node-group_of t xs =
      let os : List N = map b.opening (nodes_in t) in
      (combed (group_of b t) xs).0 ∙ ap (λ (ns : List N). pipeline b ns xs) (nodes_of-running os) ∙ pipeline-opening (nodes_in t) xs

  pub node_rejected-group_of : (t : Tree N) (xs : List Rec) → Same (node_rejected (comb_node b) (group_of b t) xs) (pipeline_rejected b (nodes_in t) xs)
  node_rejected-group_of t xs =
      let os : List N = map b.opening (nodes_in t) in
      Same-trans (combed (group_of b t) xs).1 (Same-≡ _ _ (ap (λ (ns : List N). pipeline_rejected b ns xs) (nodes_of-running os) ∙ pipeline_rejected-opening (nodes_in t) xs))

  module _ (m : ℕ) (v : View N) where
    -- the law of a stage that runs such a network
    pub law_stage : (t : Tree N) → IsLine b m t → (at : List ℕ) (i o : ℕ) (logs : List (List Event)) (xs : List Rec)
        → Known b m v (laid Stage (i ∷ []) (o ∷ []) at t ∷ []) logs → v.In i (carried xs) → Outcome b m v t (laid Stage (i ∷ []) (o ∷ []) at t ∷ []) logs o xs
    law_stage t line place i o [] xs known in_i = absurd known
    law_stage t line place i o (log ∷ other ∷ logs) xs known in_i = absurd known.1
    law_stage t line place i o (log ∷ []) xs known in_i =
        let unit : Laid N = laid Stage (i ∷ []) (o ∷ []) place t in
        let opens : IsOpen b m v unit log = known.0 in
        let given = opens.by (carried xs ∷ []) (in_i, tt) in
        let fits : FitsStage (comb_node b) (group_of b t) (carried xs ∷ []) given.0 = given.2 in
        let sends : at given.0 0 ≡ carried (mean b m t xs) =
        fits.unmarked xs refl ∙ ap carried (node-group_of t xs ∙ sym (line.mean xs)) in
        inl (record {
          fine = line.fine xs;
          ys = mean b m t xs;
          out = subst (v.Out o) sends (AllOn-one v.Out o given.0 given.1);
          same = in_order-≡ (is_ordered t) (mean b m t xs) (mean b m t xs) refl;
          rejects = λ whole. rejects (v.edge i) (v.is_edge whole i (carried xs) in_i);
          calm = v.calm_unit unit log [] [] (λ h. absurd (cc h)) v.calm_none;
        })
      where
        rejects : (ms : List _) → carried xs ≡ ms → Same (mean_rejected b m t xs) (node_rejected (comb_node b) (group_of b t) (items ms) ++ [])
        rejects ms is =
            let held : List Rec = node_rejected (comb_node b) (group_of b t) xs in
            Same-trans (Same-≡ _ _ (line.rejected xs))
            (Same-trans (Same-sym (node_rejected-group_of t xs))
            (Same-≡ held _ (
            sym (append-nil held) ∙ ap (λ ys. node_rejected (comb_node b) (group_of b t) ys ++ []) (sym (items-carried xs) ∙ ap items is))))

    pub law_leaf : (o : N) → LawOf b m v (Leaf o)
    law_leaf o place i e k logs xs known in_i = law_stage (Leaf o) (IsLine-leaf b m o) place i e logs xs known in_i

    pub law_comb : (ts : Trees N) → AreLeaves ts → LawOf b m v (Comb ts)
    law_comb ts leaves place i o e logs xs known in_i = law_stage (Comb ts) (IsLine-comb b m ts leaves) place i o logs xs known in_i
