-- The digits are the bytes up to the end of their run.
use Rattle.std.proofs.Common.{◌∙◌, rules}
use Rattle.ff_text.proofs.Ahead.{take-front, take-behind}
use Rattle.ff_text.proofs.lexeme.digits.Goals as goal

pub returns-clause-value : goal.returns-clause-value
returns-clause-value c =
    let more = rw (take-behind 1 c.args.text.now) at c.run_len-more.ensures.value in
    c.piece.ensures ∙ rw (c.read_number.ensures, take-front c.run_len-more.result c.args.text.now c.requires, more) (search rules)
