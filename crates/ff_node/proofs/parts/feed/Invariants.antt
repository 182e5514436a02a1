use Rattle.std.proofs.Common.{◌≡◌, ◌-◌, length}
use Rattle.ff_node.specs.Comb.{part}
use Rattle.ff_node.proofs.HandsOn.{HandsOn}
use Rattle.ff_node.proofs.parts.feed.Given as goal

abbrev pub invariant-loop-taken : goal.invariant-loop-taken
invariant-loop-taken g l =
    let b = g.N.Node.does in record {
      kind : b.opening l.node ≡ b.opening l.fn.node;
      on : HandsOn b (part l.fn.node l.fn.ended) l.fn.out (length l.fn.out.sends - l._taken) (part l.node l.ended) l.out;
    }
