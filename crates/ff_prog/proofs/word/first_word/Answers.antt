-- The spaces in front count for nothing.
use Rattle.std.proofs.Common.{◌∙◌}
use Rattle.ff_prog.proofs.Cuts.{spaces, take-behind}
use Rattle.ff_prog.proofs.word.first_word.Goals as goal

pub word_at_front-requires : goal.word_at_front-requires
word_at_front-requires c =
    rw (take-behind c.run_len-from.result c.args.bytes.now, c.run_len-from.ensures.value) ((spaces c.args.bytes.now).1)

pub returns-clause-words : goal.returns-clause-words
returns-clause-words c = (spaces c.args.bytes.now).0 ∙ rw (take-behind c.run_len-from.result c.args.bytes.now, c.run_len-from.ensures.value) at c.word_at_front.ensures.words
