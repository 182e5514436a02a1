use Rattle.std.proofs.Common.{◌∙◌}
use Rattle.ff_dc.specs.Fours.{at}
use Rattle.ff_dc.proofs.Ends.{fours, bits-sum, bits-max, bits-best, same-bits}
use Rattle.ff_dc.proofs.joining.join_runs.Goals as goal

pub returns : goal.returns
returns c =
    c.new.ensures
    ∙ fours
    (bits-sum c.sum_of_two-sum.result c.get.result c.get-2.result (at 0 c.args.left) (at 0 c.args.right) c.sum_of_two-sum.ensures.value c.sum_of_two-sum.ensures.within
    (same-bits c.get.result (at 0 c.args.left) c.get.ensures.value c.get.ensures.within)
    (same-bits c.get-2.result (at 0 c.args.right) c.get-2.ensures.value c.get-2.ensures.within))
    (bits-max c.greater-prefix.result c.get-3.result c.get-4.result c.get-5.result (at 1 c.args.left) (at 0 c.args.left) (at 1 c.args.right) c.greater-prefix.ensures.value c.greater-prefix.ensures.within
    (same-bits c.get-3.result (at 1 c.args.left) c.get-3.ensures.value c.get-3.ensures.within)
    (same-bits c.get-4.result (at 0 c.args.left) c.get-4.ensures.value c.get-4.ensures.within)
    (same-bits c.get-5.result (at 1 c.args.right) c.get-5.ensures.value c.get-5.ensures.within))
    (bits-max c.greater-suffix.result c.get-6.result c.get-7.result c.get-8.result (at 2 c.args.right) (at 0 c.args.right) (at 2 c.args.left) c.greater-suffix.ensures.value c.greater-suffix.ensures.within
    (same-bits c.get-6.result (at 2 c.args.right) c.get-6.ensures.value c.get-6.ensures.within)
    (same-bits c.get-7.result (at 0 c.args.right) c.get-7.ensures.value c.get-7.ensures.within)
    (same-bits c.get-8.result (at 2 c.args.left) c.get-8.ensures.value c.get-8.ensures.within))
    (bits-best c.greatest-run.result c.get-9.result c.get-10.result c.get-11.result c.get-12.result (at 3 c.args.left) (at 3 c.args.right) (at 2 c.args.left) (at 1 c.args.right) c.greatest-run.ensures.value c.greatest-run.ensures.within
    (same-bits c.get-9.result (at 3 c.args.left) c.get-9.ensures.value c.get-9.ensures.within)
    (same-bits c.get-10.result (at 3 c.args.right) c.get-10.ensures.value c.get-10.ensures.within)
    (same-bits c.get-11.result (at 2 c.args.left) c.get-11.ensures.value c.get-11.ensures.within)
    (same-bits c.get-12.result (at 1 c.args.right) c.get-12.ensures.value c.get-12.ensures.within))
