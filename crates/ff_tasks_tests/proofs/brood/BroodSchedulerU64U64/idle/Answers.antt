use Rattle.std.proofs.Common.{eq-eqb}
use Rattle.std.proofs.lemmas.Bool.{eqb-true}
use Rattle.ff_tasks_tests.proofs.Broods.{IsIdle-back, back-idle}
use Rattle.ff_tasks_tests.proofs.brood.BroodSchedulerU64U64.idle.Goals as goal

pub returns : goal.returns
returns c = (
  λ all. IsIdle-back c.args.self.now c.requires (eqb-true c.args.self.now.back c.args.self.now.came all),
  λ idle. eq-eqb c.args.self.now.back c.args.self.now.came (back-idle c.args.self.now c.requires idle),
)
