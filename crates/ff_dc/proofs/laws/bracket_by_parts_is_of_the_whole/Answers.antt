use Rattle.ff_dc.specs.declared.rule.DcRule.TheVariants.{Bracket}
use Rattle.ff_dc.proofs.Levels.{divides, levels}
use Rattle.ff_dc.proofs.Steps.{bracket-steps}
use Rattle.ff_dc.proofs.AnyOrder.{any-order}
use Rattle.ff_dc.proofs.laws.bracket_by_parts_is_of_the_whole.Goals as goal

pub returns : goal.returns
returns c = record { whole = divides Bracket bracket-steps; levels = levels Bracket bracket-steps; any_order = any-order Bracket bracket-steps }
