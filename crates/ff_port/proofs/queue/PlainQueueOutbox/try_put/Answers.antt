use Rattle.std.proofs.Common.{◌<◌, length, arith, deque_capacity}
use Rattle.ff_port.proofs.Puttings.{IsKept-put, QueuePuts-seen, Puts-seen}
use Rattle.ff_port.proofs.queue.PlainQueueOutbox.try_put.Goals as goal

pub invariant_of-self : goal.invariant_of-self
invariant_of-self g c =
    let i = c.self.inside in
    let below : length i.inside.items < i.cap = omega (arith, c.self.invariant.few, c.if-len-self.false, c.len.ensures, i.inside.ok.0) in
    IsKept-put i.got i.inside.items c.put_inside.new.inside.items (deque_capacity i.inside) (deque_capacity c.put_inside.new.inside) i.cap c.args.m c.put_inside.result
    c.self.invariant below c.put_inside.ensures.grows c.put_inside.ensures.kept

pub returns-clause-puts : goal.returns-clause-puts
returns-clause-puts g c =
    let i = c.self.inside in
    let below : length i.inside.items < i.cap = omega (arith, c.self.invariant.few, c.if-len-self.false, c.len.ensures, i.inside.ok.0) in
    Puts-seen i.got i.inside.items c.put_inside.new.inside.items i.cap c.args.m c.put_inside.result c.args.self.now c.self.view_is below c.put_inside.ensures.grows

pub returns-clause-exact : goal.returns-clause-exact
returns-clause-exact g c =
    let i = c.self.inside in
    let below : length i.inside.items < i.cap = omega (arith, c.self.invariant.few, c.if-len-self.false, c.len.ensures, i.inside.ok.0) in
    QueuePuts-seen i.got i.inside.items c.put_inside.new.inside.items i.cap c.args.m c.put_inside.result c.args.self.now c.self.view_is below c.put_inside.ensures.grows
