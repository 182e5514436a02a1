use Rattle.ff_dc.specs.declared.rule.DcRule.TheVariants.{MaxSub}
use Rattle.ff_dc.proofs.Levels.{divides, levels}
use Rattle.ff_dc.proofs.Steps.{maxsub-steps}
use Rattle.ff_dc.proofs.AnyOrder.{any-order}
use Rattle.ff_dc.proofs.laws.maxsub_by_parts_is_of_the_whole.Goals as goal

pub returns : goal.returns
returns c = record { whole = divides MaxSub maxsub-steps; levels = levels MaxSub maxsub-steps; any_order = any-order MaxSub maxsub-steps }
