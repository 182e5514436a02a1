-- Nodes in a row that a network stands for, as the one node of a run.
use Rattle.std.proofs.Common.{◌≡◌, List, [], ◌∷◌, sym, ap, ◌∙◌, append-nil}
use Rattle.ff_rec.proofs.WeightLaws.{Same-≡, Same-trans, Same-sym}
use Rattle.ff_node.specs.Behaviour.{Behaviour, node_rejected, pipeline, pipeline_rejected}
use Rattle.ff_node.specs.Comb.{running, comb_node, CombIsPipeline}
use Rattle.ff_net.specs.Tree.{Tree}
use Rattle.ff_mean.specs.Pipelines.{ArePipelineOf}
use Rattle.ff_mean.proofs.Groups.{nodes_of-running}
use Rattle.ff_stream.specs.Nodes.{IsNodeOf}

module _ {N S : Type 0} (does : Behaviour N) (net : Tree N) (b : Behaviour S) where
  -- a single node
  pub IsNodeOf-one : (os : List S) (o : S) → os ≡ o ∷ [] → ArePipelineOf does net b os → IsNodeOf does net b o
  IsNodeOf-one os o is stand = record {
    no_wrap = stand.no_wrap;
    fine = stand.fine;
    sends = λ m xs. ap (λ l. pipeline b l xs) (sym is) ∙ stand.sends m xs;
    rejects = λ m xs. Same-trans (stand.rejects m xs) (Same-≡ _ _ (ap (λ l. pipeline_rejected b l xs) is ∙ append-nil (node_rejected b o xs)));
  }

  -- several as a comb
  pub IsNodeOf-comb : CombIsPipeline b → (os : List S) → ArePipelineOf does net b os → IsNodeOf does net (comb_node b) (running os)
  IsNodeOf-comb combed os stand = record {
    no_wrap = stand.no_wrap;
    fine = stand.fine;
    sends = λ m xs. (combed (running os) xs).0 ∙ ap (λ l. pipeline b l xs) (nodes_of-running os) ∙ stand.sends m xs;
    rejects = λ m xs. Same-trans (stand.rejects m xs)
        (Same-trans (Same-≡ _ _ (ap (λ l. pipeline_rejected b l xs) (sym (nodes_of-running os)))) (Same-sym (combed (running os) xs).1));
  }
