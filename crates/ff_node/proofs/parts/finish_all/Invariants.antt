use Rattle.std.proofs.Common.{◌≡◌, map, drop}
use Rattle.ff_node.specs.Comb.{parts}
use Rattle.ff_node.specs.Passing.{passed_last}
use Rattle.ff_node.proofs.parts.finish_all.Given as goal

-- what is still to come of the parts from here on completes the whole
abbrev pub invariant-loop-k : goal.invariant-loop-k
invariant-loop-k g l =
    let b = g.N.Node.does in record {
      kind : map b.opening l.nodes ≡ map b.opening l.fn.nodes;
      sends : passed_last b (drop l.k (parts l.nodes l.ended)) l.out ≡ passed_last b (parts l.fn.nodes l.fn.ended) l.fn.out;
    }
