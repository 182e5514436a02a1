-- All parties have ended where the units say so, and the feeder and the drainer.
use Rattle.std.proofs.Common.{sym, ◌∙◌}
use Rattle.ff_steps.proofs.PartyEnds.{all_ended-units}
use Rattle.ff_steps.proofs.net_core.Core.all_ended.Goals as goal

pub returns-clause-ended : goal.returns-clause-ended
returns-clause-ended g c =
    c.parties_done.ensures.done ∙ sym (all_ended-units g.U.Unit.does g.met.U.Unit.sound c.args.self.now c.parties_done.ensures.sound)
