use Rattle.ff_dc.specs.declared.rule.DcRule.TheVariants.{FirstMin}
use Rattle.ff_dc.proofs.Levels.{divides, levels}
use Rattle.ff_dc.proofs.Steps.{firstmin-steps}
use Rattle.ff_dc.proofs.AnyOrder.{any-order}
use Rattle.ff_dc.proofs.laws.firstmin_by_parts_is_of_the_whole.Goals as goal

pub returns : goal.returns
returns c = record { whole = divides FirstMin firstmin-steps; levels = levels FirstMin firstmin-steps; any_order = any-order FirstMin firstmin-steps }
