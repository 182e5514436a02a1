-- The text of a number is plain.
use Rattle.ff_rec.proofs.Digits.{IsPlain-printed}
use Rattle.ff_rec.proofs.number.print_number.Goals as goal

pub of_plain-requires : goal.of_plain-requires
of_plain-requires c = rw (c.as_bytes.ensures.value, c.format.ensures.text) (IsPlain-printed _)
