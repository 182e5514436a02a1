-- A worker of a wrap as a unit. It is seen as a stage is, and differs from one where its node goes on after a task: it puts a Mark behind
-- the sends.
use Rattle.std.specs.Prelude.{◌≡◌, [], ◌∷◌}
use Rattle.ff_rec.specs.declared.msg.Msg.TheVariants.{Mark}
use Rattle.ff_node.specs.Behaviour.{Behaviour}
use Rattle.ff_node.specs.Fits.{FitsWorker}
use Rattle.ff_node.specs.Runs.{Act, BeginsToFit}
use Rattle.ff_node.specs.declared.class.Class.TheVariants.{Plain}
use Rattle.ff_unit.specs.Stage.{StageState}
use Rattle.ff_unit.specs.StageSteps.{StageStep}
use Rattle.ff_unit.specs.StageUnit.{stage_does}
use Rattle.ff_unit.specs.Units.{Doing}

-- one act of a worker
abbrev pub WorkerStep : {N : Type 0} → Behaviour N → StageState N → Act → StageState N → Type 0
WorkerStep b = StageStep b (Mark ∷ [])

-- what a worker of this node does: its node is Plain, and but for its steps and what it fits it is as a stage
abbrev pub worker_does : {N : Type 0} → Behaviour N → Doing (StageState N)
worker_does b = record (stage_does b) {
  Made = λ u. b.class u.node ≡ Plain;
  Steps = WorkerStep b;
  Fits = λ u. FitsWorker b u.node;
  Begins = λ u gots puts. BeginsToFit (FitsWorker b u.node) gots puts;
}
