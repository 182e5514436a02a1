use Rattle.std.proofs.Common.{deque_items, rules}
use Rattle.std.specs.List.{flat_map}
use Rattle.rtrb.specs.Ring.{received}
use Rattle.ff_ring.proofs.Endings.{EndsWith-drop}
use Rattle.ff_ring.proofs.ring_in.RingInInbox.try_take.Goals as goal

-- the bundle lost its first message
pub invariant_of-self : goal.invariant_of-self
invariant_of-self g c =
    let inn = c.look.new.self in
    let all = flat_map deque_items (received inn.inlet.end) in
    record { roomy = search rules; rest = rw c.pop_front.ensures.rest (EndsWith-drop 1 all inn.bundle.items inn.rest) }
