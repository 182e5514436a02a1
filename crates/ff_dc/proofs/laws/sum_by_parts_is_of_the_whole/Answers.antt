use Rattle.ff_dc.specs.declared.rule.DcRule.TheVariants.{Sum}
use Rattle.ff_dc.proofs.Levels.{divides, levels}
use Rattle.ff_dc.proofs.Steps.{sum-steps}
use Rattle.ff_dc.proofs.AnyOrder.{any-order}
use Rattle.ff_dc.proofs.laws.sum_by_parts_is_of_the_whole.Goals as goal

pub returns : goal.returns
returns c = record { whole = divides Sum sum-steps; levels = levels Sum sum-steps; any_order = any-order Sum sum-steps }
