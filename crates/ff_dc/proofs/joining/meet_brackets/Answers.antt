use Rattle.std.proofs.Common.{◌∙◌, refl}
use Rattle.ff_dc.specs.Fours.{at}
use Rattle.ff_dc.proofs.Ends.{fours, bits-less, same-bits}
use Rattle.ff_dc.proofs.joining.meet_brackets.Goals as goal

pub returns : goal.returns
returns c =
    c.new.ensures
    ∙ fours
    (bits-less c.less_met-closes.result c.get.result c.get-2.result c.get-3.result c.get-4.result (at 0 c.args.left) (at 0 c.args.right) (at 1 c.args.left) (at 0 c.args.right) c.less_met-closes.ensures.value c.less_met-closes.ensures.within
    (same-bits c.get.result (at 0 c.args.left) c.get.ensures.value c.get.ensures.within)
    (same-bits c.get-2.result (at 0 c.args.right) c.get-2.ensures.value c.get-2.ensures.within)
    (same-bits c.get-3.result (at 1 c.args.left) c.get-3.ensures.value c.get-3.ensures.within)
    (same-bits c.get-4.result (at 0 c.args.right) c.get-4.ensures.value c.get-4.ensures.within))
    (bits-less c.less_met-opens.result c.get-5.result c.get-6.result c.get-7.result c.get-8.result (at 1 c.args.right) (at 1 c.args.left) (at 1 c.args.left) (at 0 c.args.right) c.less_met-opens.ensures.value c.less_met-opens.ensures.within
    (same-bits c.get-5.result (at 1 c.args.right) c.get-5.ensures.value c.get-5.ensures.within)
    (same-bits c.get-6.result (at 1 c.args.left) c.get-6.ensures.value c.get-6.ensures.within)
    (same-bits c.get-7.result (at 1 c.args.left) c.get-7.ensures.value c.get-7.ensures.within)
    (same-bits c.get-8.result (at 0 c.args.right) c.get-8.ensures.value c.get-8.ensures.within))
    refl refl
