use Rattle.std.proofs.Common.{◌≡◌, map}
use Rattle.ff_port.specs.Owned.{count_of}
use Rattle.ff_port.proofs.own_ports.tell_all.Given as goal

abbrev pub invariant-loop-inn : goal.invariant-loop-inn
invariant-loop-inn g l = record {
  link : map g.I.Inbox.link l.inn-items ≡ map g.I.Inbox.link l.initial.inn-items;
  gots : map g.I.Inbox.got l.inn-items ≡ map g.I.Inbox.got l.initial.inn-items;
  knowns : map g.I.Inbox.known l.inn-items ≡ map g.I.Inbox.known l.initial.inn-items;
  counted : count_of g.I.Inbox.got l.inn-items ≡ count_of g.I.Inbox.got l.initial.inn-items;
}
