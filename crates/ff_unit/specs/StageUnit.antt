-- A stage as a unit.
use Rattle.std.specs.Prelude.{◌≡◌, Bool, true, false, List, [], Option, None, Some}
use Rattle.ff_rec.specs.Streams.{at, items}
use Rattle.ff_node.specs.Behaviour.{Behaviour, node_rejected}
use Rattle.ff_node.specs.Fits.{FitsStage}
use Rattle.ff_node.specs.Runs.{Message, BeginsToFit}
use Rattle.ff_port.specs.declared.answers.End.{End}
use Rattle.ff_port.specs.declared.answers.End.TheVariants.{Abort}
use Rattle.ff_unit.specs.Closing.{is_memory}
use Rattle.ff_unit.specs.Stage.{StageState, opening_stage}
use Rattle.ff_unit.specs.StagePorts.{StageReady, Stalls}
use Rattle.ff_unit.specs.StageSteps.{StageStep}
use Rattle.ff_unit.specs.Units.{Doing}
use Rattle.ff_unit.specs.declared.mode.Mode.{Mode}
use Rattle.ff_unit.specs.declared.mode.Mode.TheVariants.{Live, Shut, Cut}

-- a stage that was told to abort before its first step
abbrev pub aborted_stage : {N : Type 0} → StageState N → StageState N
aborted_stage u = record u { mode = Cut; fin = Some Abort; done = true; told = true }

-- whether its node is live, so that its calls may be refused memory
abbrev pub is_live : Mode → Bool
is_live Live = true
is_live Shut = false
is_live Cut = false

-- whether it is short of memory: it was cut off before its end is decided, or will end by that
abbrev pub is_cut : Mode → Bool
is_cut Live = false
is_cut Shut = false
is_cut Cut = true

abbrev pub short_of : Mode → Option End → Bool
short_of mode None = is_cut mode
short_of mode (Some fin) = is_memory fin

-- what a stage of this node does: behind the sends of a record it holds nothing
abbrev pub stage_does : {N : Type 0} → Behaviour N → Doing (StageState N)
stage_does b = record {
  Made = λ u. Unit {0};
  opening = opening_stage b;
  ins = λ u. 1;
  outs = λ u. 1;
  Rests = λ u. u.held ≡ [];
  fin = λ u. u.fin;
  done = λ u. u.done;
  told = λ u. u.told;
  aborted = aborted_stage;
  short = λ u. short_of u.mode u.fin;
  asks = λ u. is_live u.mode;
  rejects = λ u. u.rejects;
  keeps = λ u. u.keeps;
  kept = λ u. u.kept;
  taken = λ u. u.taken;
  Steps = StageStep b [];
  Ready = StageReady;
  Stalls = λ u before after. Stalls u.held u.fin before after;
  Fits = λ u. FitsStage b u.node;
  Begins = λ u gots puts. BeginsToFit (FitsStage b u.node) gots puts;
  rejected = λ u gots. node_rejected b u.node (items (at gots 0));
}

-- how a runner of this node steps that holds `behind` behind the sends of each record
abbrev pub runner_does : {N : Type 0} → Behaviour N → List Message → Doing (StageState N)
runner_does b behind = record (stage_does b) { Steps = StageStep b behind }
