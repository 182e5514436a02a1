use Rattle.std.proofs.Common.{◌≡◌, ◌<◌, ◌≤◌, ℕ, ◌+◌, slice_index}
use Rattle.ff_unit.proofs.UnitAborts.{abort_puts}
use Rattle.ff_unit.proofs.aborts.put_aborts.Given as goal

abbrev pub invariant-loop-k : goal.invariant-loop-k
invariant-loop-k g l = record {
  puts : (m : ℕ) → l.k + m ≡ l.k-end → g.P.Ports.puts l.ports ≡ abort_puts l.k m;
  rooms : (j : ℕ) → l.k ≤ j → j < l.k-end → 0 < slice_index (g.P.Ports.rooms l.ports) j;
  gots : g.P.Ports.gots l.ports ≡ g.P.Ports.gots l.initial.ports;
  link : g.P.Ports.link l.ports ≡ g.P.Ports.link l.initial.ports;
}
