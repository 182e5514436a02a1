-- Digits are plain.
use Rattle.std.proofs.Common.{sym, subst, ◌∙◌}
use Rattle.ff_rec.specs.Lines.{IsPlain}
use Rattle.ff_rec.proofs.Digits.{IsPlain-printed}
use Rattle.ff_rec.proofs.record.Record.set_number.Goals as goal

pub put-requires-clause-plain : goal.put-requires-clause-plain
put-requires-clause-plain c = subst IsPlain (sym (c.as_bytes.ensures.value ∙ c.format.ensures.text)) (IsPlain-printed _)
