-- Nodes in a row that a network stands for, and combs of them in a row.
use Rattle.std.proofs.Common.{◌≡◌, false, List, [], ◌∷◌, ◌++◌, refl, sym, ap, ◌∙◌, append-nil, map, length, length-append, arith}
use Rattle.std.specs.Prelude.{Result, Ok, Err, IfOk}
use Rattle.std.proofs.lemmas.Grind.{flat_map-append}
use Rattle.ff_rec.specs.Lines.{Rec}
use Rattle.ff_rec.specs.Weights.{Same}
use Rattle.ff_rec.proofs.WeightLaws.{Same-≡, Same-trans, Same-sym, Same-append}
use Rattle.ff_node.specs.Behaviour.{Behaviour, KeepsKind, node, node_rejected, pipeline, pipeline_rejected}
use Rattle.ff_node.specs.Comb.{Part, running, nodes_of, comb_node, CombIsPipeline}
use Rattle.ff_net.specs.Forms.{has_wrap}
use Rattle.ff_net.specs.Nodes.{nodes_in}
use Rattle.ff_net.specs.Tree.{Tree}
use Rattle.ff_mean.specs.Pipelines.{ArePipelineOf, all_nodes}
use Rattle.ff_mean.specs.Runs.{IsPipeline}
use Rattle.ff_mean.proofs.Pipelines.{pipeline-append, pipeline_rejected-append, pipeline-opened, pipeline_rejected-opened}

-- the last of one node is the only one
pub only-last : {A : Type 0} (front items : List A) (o : A) → items ≡ front ++ o ∷ [] → length items ≡ 1 → items ≡ o ∷ []
only-last [] items o is one = is
only-last (n ∷ front) items o is one = absurd (omega (arith, one, ap length is, length-append front (o ∷ [])))

-- the nodes of a comb
pub nodes_of-running : {S : Type 0} (os : List S) → nodes_of (running os) ≡ os
nodes_of-running [] = refl
nodes_of-running {S} (o ∷ os) = ap (λ (l : List S). o ∷ l) (nodes_of-running os)

-- the nodes of one comb more
pub all_nodes-push : {S : Type 0} (before now : List (List (Part S))) (comb : List (Part S)) (os : List S) → comb ≡ running os → now ≡ before ++ comb ∷ [] → all_nodes now ≡ all_nodes before ++ os
all_nodes-push {S} before now comb os is pushed =
    ap all_nodes pushed ∙ flat_map-append nodes_of before (comb ∷ [])
    ∙ ap (λ (l : List S). all_nodes before ++ l) (append-nil (nodes_of comb) ∙ ap nodes_of is ∙ nodes_of-running os)

module _ {S : Type 0} (b : Behaviour S) where
  -- combs in a row are all their nodes in a row
  pipeline-groups : CombIsPipeline b → (groups : List (List (Part S))) (xs : List Rec) → pipeline (comb_node b) groups xs ≡ pipeline b (all_nodes groups) xs
  pipeline-groups combed [] xs = refl
  pipeline-groups combed (g ∷ gs) xs =
      pipeline-groups combed gs (node (comb_node b) g xs)
      ∙ ap (λ (l : List Rec). pipeline b (all_nodes gs) l) (combed g xs).0
      ∙ sym (pipeline-append b (nodes_of g) (all_nodes gs) xs)

  pipeline_rejected-groups : CombIsPipeline b → (groups : List (List (Part S))) (xs : List Rec)
      → Same (pipeline_rejected (comb_node b) groups xs) (pipeline_rejected b (all_nodes groups) xs)
  pipeline_rejected-groups combed [] xs = Same-≡ [] [] refl
  pipeline_rejected-groups combed (g ∷ gs) xs =
      let here = node_rejected (comb_node b) g xs in
      let behind = pipeline_rejected b (all_nodes gs) (node (comb_node b) g xs) in
      Same-trans (Same-append (Same-≡ here here refl) (pipeline_rejected-groups combed gs (node (comb_node b) g xs)))
      (Same-trans (Same-append (combed g xs).1 (Same-≡ behind behind refl))
      (Same-≡ _ _ (
      ap (λ (l : List Rec). pipeline_rejected b (nodes_of g) xs ++ pipeline_rejected b (all_nodes gs) l) (combed g xs).0
      ∙ sym (pipeline_rejected-append b (nodes_of g) (all_nodes gs) xs))))

module _ {N S : Type 0} (does : Behaviour N) (net : Tree N) (b : Behaviour S) where
  pub ArePipelineOf-groups : CombIsPipeline b → (os : List S) (groups : List (List (Part S))) → all_nodes groups ≡ os → ArePipelineOf does net b os → ArePipelineOf does net (comb_node b) groups
  ArePipelineOf-groups combed os groups is stand = record {
    no_wrap = stand.no_wrap;
    fine = stand.fine;
    sends = λ m xs. pipeline-groups b combed groups xs ∙ ap (λ l. pipeline b l xs) is ∙ stand.sends m xs;
    rejects = λ m xs. Same-trans (stand.rejects m xs)
        (Same-trans (Same-≡ _ _ (ap (λ l. pipeline_rejected b l xs) (sym is))) (Same-sym (pipeline_rejected-groups b combed groups xs)));
  }

  pub IfOk-groups : {A E : Type 0} (answer : Result A E) (items : A → List (List (Part S))) → CombIsPipeline b → (os : List S) → IfOk answer (λ a. all_nodes (items a) ≡ os)
      → ArePipelineOf does net b os → IfOk answer (λ a. ArePipelineOf does net (comb_node b) (items a))
  IfOk-groups (Ok a) items combed os grouped stand = ArePipelineOf-groups combed os (items a) grouped stand
  IfOk-groups (Err e) items combed os grouped stand = tt

-- the nodes of a network without feedback
pub ArePipelineOf-opened : {N : Type 0} (b : Behaviour N) → KeepsKind b → (t : Tree N) (items : List N) → has_wrap t ≡ false → IsPipeline b t → items ≡ map b.opening (nodes_in t)
    → ArePipelineOf b t b items
ArePipelineOf-opened {N} b keeps t items no_wrap lined copied = record {
  no_wrap = no_wrap;
  fine = lined.fine;
  sends = λ m xs. ap (λ (os : List N). pipeline b os xs) copied ∙ pipeline-opened b keeps (nodes_in t) xs ∙ sym (lined.mean m xs);
  rejects = λ m xs. Same-≡ _ _ (lined.rejected m xs ∙ sym (pipeline_rejected-opened b keeps (nodes_in t) xs) ∙ ap (λ (os : List N). pipeline_rejected b os xs) (sym copied));
}
