use Rattle.std.proofs.Common.{◌∙◌, ap, ◌+ℤ◌, arith}
use Rattle.std.proofs.lemmas.Int.{ints}
use Rattle.ff_dc.specs.Fours.{at, only}
use Rattle.ff_dc.proofs.Ends.{clip-bits}
use Rattle.ff_dc.proofs.joining.add_firsts.Goals as goal

pub returns : goal.returns
returns c =
    c.new.ensures
    ∙ ap only (clip-bits c.clipped.result _ (at 0 c.args.left +ℤ at 0 c.args.right) c.clipped.ensures.value c.clipped.ensures.within (omega (arith, ints)))
