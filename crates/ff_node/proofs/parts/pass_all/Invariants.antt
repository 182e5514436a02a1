use Rattle.std.proofs.Common.{◌≡◌, ◌++◌, take, map, drop}
use Rattle.ff_node.specs.Comb.{parts, through_after}
use Rattle.ff_node.specs.Passing.{passed}
use Rattle.ff_node.proofs.parts.pass_all.Given as goal

-- what is still to come of the parts from here on completes the whole
abbrev pub invariant-loop-i : goal.invariant-loop-i
invariant-loop-i g l =
    let b = g.N.Node.does in record {
      kind : map b.opening l.nodes ≡ map b.opening l.fn.nodes;
      state : take l.i (parts l.nodes l.ended) ++ through_after b (drop l.i (parts l.nodes l.ended)) l.out.sends
          ≡ take l.fn.from (parts l.fn.nodes l.fn.ended) ++ through_after b (drop l.fn.from (parts l.fn.nodes l.fn.ended)) l.fn.out.sends;
      sends : passed b (drop l.i (parts l.nodes l.ended)) l.out ≡ passed b (drop l.fn.from (parts l.fn.nodes l.fn.ended)) l.fn.out;
    }
