-- The unit ran by its own steps so far.
use Rattle.std.proofs.Common.{◌≡◌}
use Rattle.ff_unit.specs.Units.{Ran}
use Rattle.ff_engine.proofs.stepping.run_unit.Given as goal

abbrev pub invariant-loop : goal.invariant-loop
invariant-loop g l = record {
  ran : Ran g.U.Unit.does l.unit (g.P.Ports.gots l.ports) (g.P.Ports.puts l.ports);
  start : g.U.Unit.does.opening l.unit ≡ g.U.Unit.does.opening l.initial.unit;
  taken : g.U.Unit.does.taken l.unit ≡ g.U.Unit.does.taken l.initial.unit;
  told : g.U.Unit.does.told l.unit ≡ g.U.Unit.does.told l.initial.unit;
  link : g.P.Ports.link l.ports ≡ g.P.Ports.link l.initial.ports;
}
