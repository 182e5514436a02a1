-- Pieces of plain bytes are plain, and a word that was sent is no longer left.
use Rattle.std.proofs.Common.{◌≡◌, [], sym, ap, ◌∙◌, subst}
use Rattle.ff_node.specs.Sends.{add}
use Rattle.ff_rec.specs.Lines.{IsPlain}
use Rattle.ff_ops.proofs.Wording.{words_left, IsPlainRest, IsPlain-piece, IsPlainRest-behind, words_left-sent, is_empty-false}
use Rattle.ff_ops.proofs.field_op.several.send_words.Goals as goal

pub of_plain-requires : goal.of_plain-requires
of_plain-requires c =
    let plain : IsPlain c.in-Some.bytes.now = subst IsPlainRest c.in-Some.is c.loop-rest.invariant.plain in
    IsPlain-piece c.split_near.result.0.now c.in-Some.bytes.now c.split_near.result.1 c.split_near.ensures.whole plain

pub loop-rest-preserved-in_ok-send : goal.loop-rest-preserved-in_ok-send
loop-rest-preserved-in_ok-send c =
    let plain : IsPlain c.in-Some.bytes.now = subst IsPlainRest c.in-Some.is c.loop-rest.invariant.plain in
    let some : c.split_near.result.0.now ≡ [] → ⊥ = is_empty-false c.split_near.result.0.now c.is_empty.result c.is_empty.ensures c.if-not-is_empty.true in
    record {
      sent =
          words_left-sent c.loop-rest.out c.send.new.self c.split_near.result.0.now c.in-Some.bytes.now c.split_near.result.1 c.in_ok-of_plain.field-0 c.split_near.ensures.pieces some c.in_ok-of_plain.ensures c.in_ok-send.ensures.ok
          ∙ ap (λ rest. add c.loop-rest.out (words_left rest) []) (sym c.in-Some.is) ∙ c.loop-rest.invariant.sent;
      plain = IsPlainRest-behind c.split_near.result.0.now c.in-Some.bytes.now c.split_near.result.1 c.split_near.ensures.whole plain;
    }
