use Rattle.std.proofs.Common.{◌+◌, refl}
use Rattle.ff_tasks_tests.proofs.Broods.{Nexts-some}
use Rattle.ff_tasks_tests.proofs.brood.BroodSchedulerU64U64.next.Goals as goal

pub returns : goal.returns
returns c =
    let b = c.args.self.now in
    Nexts-some b c.requires (record b { ready = c.pop.new.self; given = b.given + 1; events = c.given.new.self }) c.in_ok-t.t
    c.in_ok-t.ensures.items refl refl refl refl c.given.ensures
