-- Bytes that aren't UTF-8 are no number, and of the others `parse` tells the number.
use Rattle.std.proofs.Common.{sym, ap, ◌∙◌}
use Rattle.ff_rec.specs.Number.{number}
use Rattle.ff_rec.proofs.Reading.{result_ok-parse, number-not_utf8, MatchResult-some, MatchResult-none}
use Rattle.ff_rec.proofs.number.parse_number.Goals as goal

pub returns-in_err-text : goal.returns-in_err-text
returns-in_err-text c =
    let not_utf8 = MatchResult-none _ _ _ c.from_utf8.result c.from_utf8.ensures.cases (λ e h. h.0) (sym c.ok.ensures.value ∙ c.in_err-text.was) in
    c.from_residual.ensures ∙ sym (number-not_utf8 c.args.bytes.now not_utf8)

pub returns : goal.returns
returns c =
    let text = MatchResult-some _ _ c.from_utf8.result c.in_ok-text.text c.from_utf8.ensures.cases (sym c.ok.ensures.value ∙ c.in_ok-text.was) in
    c.ok-2.ensures.value ∙ result_ok-parse c.in_ok-text.text.now c.parse.result c.parse.ensures.value.0 ∙ ap number text.0
