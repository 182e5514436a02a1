-- The lowest bit of the mask of the bytes that equal `byte` is its first place.
use Rattle.std.proofs.Common.{refl, arith}
use Rattle.ff_rec.proofs.Masks.{Nowhere-compared, NoneBefore-compared}
use Rattle.ff_rec.proofs.near.first_half.Goals as goal

pub returns-then-places-eq0 : goal.returns-then-places-eq0
returns-then-places-eq0 c = Nowhere-compared c.args.byte c.args.text.now 16 c.requires (omega arith) c.if-places-eq0.true

pub returns : goal.returns
returns c = NoneBefore-compared c.args.byte c.args.text.now 16 _ c.requires (omega arith) (omega (arith, c.if-places-eq0.false)) refl
