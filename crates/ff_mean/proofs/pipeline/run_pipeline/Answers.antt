-- A node was run over all records, and at the end none is left.
use Rattle.std.proofs.Common.{◌≡◌, List, [], ◌∷◌, length, sym, ap, ◌∙◌, arith}
use Rattle.std.specs.Vec.Iter.{into_iter_items}
use Rattle.ff_node.specs.Behaviour.{pipeline, pipeline_rejected}
use Rattle.ff_node.specs.Sends.{add}
use Rattle.ff_node.proofs.SendsLaws.{add-nothing}
use Rattle.ff_mean.proofs.NodeSteps.{pipeline_rejected-next, empty-added}
use Rattle.ff_mean.proofs.pipeline.run_pipeline.Goals as goal

nothing_left : {X : Type 0} (l : List X) → length l ≡ 0 → l ≡ []
nothing_left [] h = cc
nothing_left (x ∷ xs) h = absurd (omega arith)

pub loop-node-preserved : goal.loop-node-preserved
loop-node-preserved g c =
    let b = g.N.Node.does in
    let at = c.loop-node in
    let rest = into_iter_items c.next.new.self in
    let steps : into_iter_items at.node-iterator ≡ c.in-Some.node ∷ rest = c.in-Some.ensures.steps.0 in
    record {
      sent = ap (pipeline b rest) c.in_ok-records.ensures.sent ∙ ap (λ l. pipeline b l at.records) (sym steps) ∙ at.invariant.sent;
      rejected = pipeline_rejected-next b c.in-Some.node (into_iter_items at.node-iterator) rest at.records c.in_ok-records.records at.out c.run_node.new.out steps
          c.in_ok-records.ensures.sent c.in_ok-records.ensures.rejected
          ∙ at.invariant.rejected;
      empty = empty-added at.out c.run_node.new.out _ at.invariant.empty c.in_ok-records.ensures.rejected;
      size = let was = at.invariant.size in let gone = c.in-Some.ensures.steps.1 in let short = ap length steps in omega arith;
    }

pub returns-clause-rejected : goal.returns-clause-rejected
returns-clause-rejected g c =
    let b = g.N.Node.does in
    let at = c.loop-node in
    let ended = c.in-None.ensures.steps in
    let none : into_iter_items at.node-iterator ≡ [] = nothing_left _ (sym at.invariant.size ∙ ended.0) in
    sym (add-nothing at.out)
    ∙ ap (λ l. add at.out [] (pipeline_rejected b l at.records)) (sym none)
    ∙ at.invariant.rejected
    ∙ ap (λ l. add c.args.out.now [] (pipeline_rejected b l c.args.input)) c.into_iter-node-iterator.ensures.into_iter_gives.0
