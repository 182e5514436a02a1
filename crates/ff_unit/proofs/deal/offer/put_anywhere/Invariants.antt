use Rattle.std.proofs.Common.{◌≡◌, ◌<◌, ◌≤◌, ℕ, slice_index}
use Rattle.ff_rec.specs.declared.msg.Msg.TheVariants.{Item}
use Rattle.ff_unit.proofs.deal.offer.put_anywhere.Given as goal

-- the outs that were tried have no room, and nothing was put
abbrev pub invariant-loop-w : goal.invariant-loop-w
invariant-loop-w g l = record {
  offered : l.m ≡ Item l.fn.r;
  puts : g.P.Ports.puts l.ports ≡ g.P.Ports.puts l.initial.ports;
  tried : (j : ℕ) → j < l.w → slice_index (g.P.Ports.rooms l.initial.ports) j ≡ 0;
  full : (j : ℕ) → j < l.w → slice_index (g.P.Ports.rooms l.ports) j ≡ 0;
  others : (j : ℕ) → l.w ≤ j → slice_index (g.P.Ports.rooms l.ports) j ≡ slice_index (g.P.Ports.rooms l.initial.ports) j;
  gots : g.P.Ports.gots l.ports ≡ g.P.Ports.gots l.initial.ports;
  link : g.P.Ports.link l.ports ≡ g.P.Ports.link l.initial.ports;
}
