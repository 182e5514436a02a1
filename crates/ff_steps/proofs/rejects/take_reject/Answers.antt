-- The unit at this place gave its reject.
use Rattle.std.proofs.Common.{◌<◌, length, rules}
use Rattle.ff_steps.proofs.Handed.{HandsFirst-at}
use Rattle.ff_steps.proofs.rejects.take_reject.Goals as goal

pub returns-in-Some : goal.returns-in-Some
returns-in-Some g c =
    let within : c.loop-p.p < length c.args.units.now.items = search rules in
    HandsFirst-at g.U.Unit.does _ _ _ _ _ _ c.loop-p.invariant.same within c.loop-p.invariant.below c.index_mut.ensures.value c.in-Some.ensures.taken
