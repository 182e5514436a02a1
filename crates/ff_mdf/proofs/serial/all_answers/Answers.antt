-- The answer of one statement more.
use Rattle.std.proofs.Common.{◌≡◌, ◌<◌, ◌∙◌, Some, None, length, get_or, ap, subst, arith}
use Rattle.ff_prog.specs.declared.link.Links.{Links}
use Rattle.ff_mdf.specs.Linked.{linked_answer}
use Rattle.ff_mdf.proofs.LinkedValues.{AreAnswers-push, linked_answer-index}
use Rattle.ff_mdf.proofs.serial.all_answers.Goals as goal

pub loop-k-preserved : goal.loop-k-preserved
loop-k-preserved c =
    let ss = c.args.program.now in
    let xs = c.loop-k.answers.items in
    let ls = c.links-links.result.now in
    let k = c.loop-k.k in
    let s = c.index-statements-k.result in
    let none : Links = record { a = None; b = None; c = None } in
    let same : c.as_slice-statements.result.now ≡ ss = c.as_slice-statements.ensures.value ∙ c.program.ensures.program in
    let below = subst (λ ts. k < length ts) same c.loop-k-test.true in
    let at = c.index-statements-k.is ∙ ap (λ ts. get_or ts k s) same in
    let many : length xs ≡ k = omega (arith, c.loop-k.answers.ok.0) in
    let answer = c.answer_of-answer.ensures ∙ ap (λ ys. linked_answer ys (Some s) (get_or ls k none)) c.as_slice.ensures.value ∙ linked_answer-index ss xs ls k s none below c.loop-k.invariant.answers c.links-links.ensures.links at in
    record {
      many = omega (arith, c.in_ok-push.ensures.len);
      answers = AreAnswers-push ss xs c.push.new.self.items k c.answer_of-answer.result many c.loop-k.invariant.answers c.in_ok-push.ensures.items answer;
    }
