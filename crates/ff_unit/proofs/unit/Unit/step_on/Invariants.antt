-- Each turn so far moved the unit.
use Rattle.std.proofs.Common.{◌≡◌, true}
use Rattle.ff_unit.specs.Units.{Ran, ShortOnly}
use Rattle.ff_unit.proofs.Through.{MovesSome}
use Rattle.ff_unit.proofs.unit.Unit.step_on.Given as goal

abbrev pub invariant-loop-k : goal.invariant-loop-k
invariant-loop-k g l = record {
  ran : Ran g.Self.Unit.does l.self (g.P.Ports.gots l.ports) (g.P.Ports.puts l.ports);
  moved : MovesSome g.Self.Unit.does g.P.Ports l.k l.initial.self l.initial.ports l.self l.ports;
  first : l.k ≡ 0 → (l.self ≡ l.initial.self) × (l.ports ≡ l.initial.ports);
  short : ShortOnly g.Self.Unit.does g.P.Ports.grows l.initial.self l.self;
  asks : g.Self.Unit.does.asks l.self ≡ true → g.Self.Unit.does.asks l.initial.self ≡ true;
  link : g.P.Ports.link l.ports ≡ g.P.Ports.link l.initial.ports;
}
