use Rattle.std.proofs.Common.{◌≡◌, [], length}
use Rattle.std.specs.Vec.Iter.{into_iter_items, into_iter_len}
use Rattle.ff_node.specs.Behaviour.{pipeline, pipeline_rejected}
use Rattle.ff_node.specs.Sends.{add}
use Rattle.ff_mean.proofs.pipeline.run_pipeline.Given as goal

-- the nodes that are left make of the records what all make of the first, and nothing sent is left behind
abbrev pub invariant-loop-node : goal.invariant-loop-node
invariant-loop-node g l = record {
  sent : pipeline g.N.Node.does (into_iter_items l.node-iterator) l.records ≡ pipeline g.N.Node.does (into_iter_items l.initial.node-iterator) l.initial.records;
  rejected : add l.out [] (pipeline_rejected g.N.Node.does (into_iter_items l.node-iterator) l.records)
      ≡ add l.initial.out [] (pipeline_rejected g.N.Node.does (into_iter_items l.initial.node-iterator) l.initial.records);
  empty : l.out.sends ≡ [];
  size : into_iter_len l.node-iterator ≡ length (into_iter_items l.node-iterator);
}
