use Rattle.std.proofs.Common.{◌≡◌, vec_len}
use Rattle.ff_mdf.specs.Answers.{AreAnswers}
use Rattle.ff_mdf.proofs.serial.all_answers.Given as goal

-- what the statements so far give
abbrev pub invariant-loop-k : goal.invariant-loop-k
invariant-loop-k l = record {
  many : vec_len l.answers ≡ l.k;
  answers : AreAnswers l.program l.answers.items l.k;
}
