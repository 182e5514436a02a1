-- The words of the rest are still to be sent.
use Rattle.std.proofs.Common.{◌≡◌, [], ◌∷◌, map}
use Rattle.ff_node.specs.Sends.{add}
use Rattle.ff_ops.specs.FieldOps.{words}
use Rattle.ff_ops.proofs.Wording.{words_left, IsPlainRest, rest_size}
use Rattle.ff_ops.proofs.field_op.several.send_words.Given as goal

abbrev pub invariant-loop-rest : goal.invariant-loop-rest
invariant-loop-rest l = record {
  sent : add l.out (words_left l.rest) [] ≡ add l.initial.out (map (λ word. word ∷ []) (words l.fn.bytes)) [];
  plain : IsPlainRest l.rest;
}

abbrev pub decreases-loop-rest : goal.decreases-loop-rest
decreases-loop-rest l = rest_size l.rest
