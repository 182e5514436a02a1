-- Each step passes over the lexeme at the front.
use Rattle.std.proofs.Common.{◌∙◌, ◌+◌, ap, arith, length-drop}
use Rattle.std.specs.Option.{option_map}
use Rattle.ff_text.specs.Cutting.{put, ahead}
use Rattle.ff_text.specs.Seen.{token_of, seen}
use Rattle.ff_text.proofs.Ahead.{take-behind, ahead-lexeme, ahead-token}
use Rattle.ff_text.proofs.reader.next_spot.Goals as goal

pub returns-in-Some-clause-first : goal.returns-in-Some-clause-first
returns-in-Some-clause-first c =
    let bytes = take-behind c.loop-at.at c.args.text.now in
    let value = rw bytes at c.first_lexeme-lexeme.ensures.value in
    let within = rw bytes at c.first_lexeme-lexeme.ensures.within in
    c.loop-at.invariant.same
    ∙ (ahead-token c.args.text.now c.loop-at.at (seen c.first_lexeme-lexeme.result) (token_of c.in-Some.token) value within (ap (option_map token_of) c.in-Some.is)).1

pub returns-in-Some-clause-stays : goal.returns-in-Some-clause-stays
returns-in-Some-clause-stays c =
    let bytes = take-behind c.loop-at.at c.args.text.now in
    let value = rw bytes at c.first_lexeme-lexeme.ensures.value in
    let within = rw bytes at c.first_lexeme-lexeme.ensures.within in
    λ stop. absurd ((ahead-token c.args.text.now c.loop-at.at (seen c.first_lexeme-lexeme.result) (token_of c.in-Some.token) value within (ap (option_map token_of) c.in-Some.is)).0 stop)

pub returns-in-Some-clause-plain : goal.returns-in-Some-clause-plain
returns-in-Some-clause-plain c =
    let bytes = take-behind c.loop-at.at c.args.text.now in
    let value = rw bytes at c.first_lexeme-lexeme.ensures.value in
    let within = rw bytes at c.first_lexeme-lexeme.ensures.within in
    (ahead-token c.args.text.now c.loop-at.at (seen c.first_lexeme-lexeme.result) (token_of c.in-Some.token) value within (ap (option_map token_of) c.in-Some.is)).2

pub loop-at-preserved : goal.loop-at-preserved
loop-at-preserved c =
    let bytes = take-behind c.loop-at.at c.args.text.now in
    let value = rw bytes at c.first_lexeme-lexeme.ensures.value in
    let within = rw bytes at c.first_lexeme-lexeme.ensures.within in
    record {
      same =
          c.loop-at.invariant.same
          ∙ ahead-lexeme c.args.text.now c.loop-at.at (seen c.first_lexeme-lexeme.result) value within
          ∙ ap (λ o. put (option_map token_of o) c.loop-at.at (ahead c.args.text.now (c.loop-at.at + (1 + c.first_lexeme-lexeme.result.more)))) c.in_default.is;
      within = omega (arith, within, length-drop c.loop-at.at c.args.text.now);
    }
