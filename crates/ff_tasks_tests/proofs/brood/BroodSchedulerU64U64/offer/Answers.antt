use Rattle.std.proofs.Common.{refl}
use Rattle.std.proofs.lemmas.Result.{on_ok_weaker}
use Rattle.ff_tasks_tests.proofs.Broods.{Goes-fed}
use Rattle.ff_tasks_tests.proofs.brood.BroodSchedulerU64U64.offer.Goals as goal

pub returns : goal.returns
returns c = on_ok_weaker c.grow.result
    (λ grown. Goes-fed c.args.self.now c.requires (record c.args.self.now { events = c.offered.new.self }) c.grow.new.self c.args.t
    refl refl refl refl refl c.offered.ensures grown)
    c.grow.ensures
