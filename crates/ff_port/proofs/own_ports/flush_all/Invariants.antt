use Rattle.std.proofs.Common.{◌≡◌, ◌↔◌, take, map, IsTrue}
use Rattle.std.specs.List.{sum_by}
use Rattle.ff_port.proofs.own_ports.flush_all.Given as goal

abbrev pub invariant-loop-out : goal.invariant-loop-out
invariant-loop-out g l = record {
  link : map g.O.Outbox.link l.out-items ≡ map g.O.Outbox.link l.initial.out-items;
  puts : map g.O.Outbox.put l.out-items ≡ map g.O.Outbox.put l.initial.out-items;
  flushed : IsTrue l.all ↔ (sum_by g.O.Outbox.waiting (take l.out-index l.out-items) ≡ 0);
}
