use Rattle.std.proofs.Common.{◌≡◌}
use Rattle.ff_unit.specs.Takes.{DryBetween}
use Rattle.ff_unit.proofs.takes.take_between.Given as goal

-- nothing was taken, and nothing is known at any live in before it
abbrev pub invariant-loop-k : goal.invariant-loop-k
invariant-loop-k g l = record {
  gots : g.P.Ports.gots l.ports ≡ g.P.Ports.gots l.initial.ports;
  knowns : g.P.Ports.knowns l.ports ≡ g.P.Ports.knowns l.initial.ports;
  dry : DryBetween l.low l.k l.live (g.P.Ports.knowns l.initial.ports);
  puts : g.P.Ports.puts l.ports ≡ g.P.Ports.puts l.initial.ports;
  rooms : g.P.Ports.rooms l.ports ≡ g.P.Ports.rooms l.initial.ports;
  waiting : g.P.Ports.waiting l.ports ≡ g.P.Ports.waiting l.initial.ports;
  link : g.P.Ports.link l.ports ≡ g.P.Ports.link l.initial.ports;
}
