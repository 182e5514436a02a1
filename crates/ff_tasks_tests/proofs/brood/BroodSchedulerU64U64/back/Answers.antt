use Rattle.std.proofs.Common.{◌+◌, refl, arith}
use Rattle.std.proofs.lemmas.Result.{on_ok_weaker}
use Rattle.ff_tasks_tests.proofs.Broods.{Goes-back, back-fits}
use Rattle.ff_tasks_tests.proofs.brood.BroodSchedulerU64U64.back.Goals as goal

pub overflow_add-self : goal.overflow_add-self
overflow_add-self c = omega (arith, back-fits c.args.self.now c.requires.right c.args.id c.requires.out)

pub returns : goal.returns
returns c =
    let b = c.args.self.now in
    let pushed = c.in_ok-push.ensures.items in
    on_ok_weaker c.grow.result
    (λ grown. Goes-back b c.requires.right (record b { back = b.back + 1; answers = c.push.new.self; events = c.back.new.self }) c.grow.new.self c.args.id c.args.a
    c.requires.out refl pushed refl refl refl c.back.ensures grown)
    c.grow.ensures
