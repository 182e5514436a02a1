-- The unit ran by its own steps so far.
use Rattle.ff_unit.specs.Units.{Ran}
use Rattle.ff_steps_tests.proofs.tests.stages.run.Given as goal

abbrev pub invariant-loop : goal.invariant-loop
invariant-loop g l = Ran g.U.Unit.does l.unit (g.P.Ports.gots l.ports) (g.P.Ports.puts l.ports)
