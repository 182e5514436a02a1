-- A core as the definitions see it.
use Rattle.std.specs.Prelude.{List, map}
use Rattle.ff_rec.specs.Lines.{Rec}
use Rattle.ff_port.specs.Queues.{Queue}
use Rattle.ff_unit.specs.Units.{Doing}
use Rattle.ff_steps.specs.Core.{CoreState}
use Rattle.ff_steps.specs.Moves.{feeder_of, drainer_of}
use Rattle.ff_steps.specs.Wiring.{Row, all_rows}
use Rattle.ff_steps.specs.declared.feeder.Feeder.{Feeder as Feeding}
use Rattle.ff_steps.specs.declared.drainer.Drainer.{Drainer as Draining}

-- by its parts; what it was made of is what its units were before their first steps
abbrev pub core_of : {U : Type 0} → Doing U → List Row → List (Queue Rec) → List U → Feeding → Draining → CoreState U
core_of b rows edges units feeder drainer = record {
  made = map b.opening units;
  input = feeder.input;
  rows = all_rows rows;
  edges = edges;
  units = units;
  feeder = feeder_of feeder;
  drainer = drainer_of drainer;
}
