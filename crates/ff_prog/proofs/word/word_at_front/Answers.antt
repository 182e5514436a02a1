-- `=`, or a run.
use Rattle.std.proofs.Common.{◌<◌, length, arith}
use Rattle.ff_prog.proofs.Cuts.{equal-front, word-front, take-behind}
use Rattle.ff_prog.proofs.word.word_at_front.Goals as goal

pub returns-then-bytes-eq61-clause-words : goal.returns-then-bytes-eq61-clause-words
returns-then-bytes-eq61-clause-words c =
    let some : 0 < length c.args.bytes.now = grind arith in
    rw (take-behind 1 c.args.bytes.now) (equal-front c.args.bytes.now c.requires some c.if-bytes-eq61.true)

pub returns-clause-words : goal.returns-clause-words
returns-clause-words c =
    let some : 0 < length c.args.bytes.now = grind arith in
    rw (take-behind c.run_len-len.result c.args.bytes.now, c.run_len-len.ensures.value) (word-front c.args.bytes.now c.requires some c.if-bytes-eq61.false)
