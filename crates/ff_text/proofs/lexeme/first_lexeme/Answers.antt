-- A word is the bytes up to the end of its run.
use Rattle.std.proofs.Common.{◌∙◌, rules}
use Rattle.ff_text.proofs.Ahead.{take-front, take-behind}
use Rattle.ff_text.proofs.lexeme.first_lexeme.Goals as goal

pub returns-in-97-to-122-clause-value : goal.returns-in-97-to-122-clause-value
returns-in-97-to-122-clause-value c =
    let more = rw (take-behind 1 c.args.text.now) at c.run_len-more.ensures.value in
    c.piece.ensures ∙ rw (take-front c.run_len-more.result c.args.text.now c.requires, more) (search rules)
