-- `memchr2` finds the first tab or newline.
use Rattle.ff_rec.proofs.Separators.{IsPlain-places, position-first}
use Rattle.ff_rec.proofs.field.Field.new.Goals as goal

pub returns-in-Some : goal.returns-in-Some
returns-in-Some c = position-first c.args.bytes.now c.in-Some.at c.in-Some.ensures.0 c.in-Some.ensures.1

pub of_plain-requires : goal.of_plain-requires
of_plain-requires c = IsPlain-places c.args.bytes.now c.in_default.ensures
