use Rattle.ff_dc.specs.declared.rule.DcRule.TheVariants.{Fib}
use Rattle.ff_dc.proofs.Levels.{divides, levels}
use Rattle.ff_dc.proofs.FibSteps.{fib-steps}
use Rattle.ff_dc.proofs.AnyOrder.{any-order}
use Rattle.ff_dc.proofs.laws.fib_by_parts_is_of_the_whole.Goals as goal

pub returns : goal.returns
returns c = record { whole = divides Fib fib-steps; levels = levels Fib fib-steps; any_order = any-order Fib fib-steps }
