use Rattle.std.proofs.Common.{rules, arith, ◌≤◌, ◌+◌, length}
use Rattle.rtrb.specs.Ring.{known_items}
use Rattle.ff_ring.proofs.Prefixes.{length-prefix}
use Rattle.ff_ring.proofs.outlet.Outlet.hand_over.Goals as goal

-- a free slot and an empty block fewer
pub returns-clause-exchanged : goal.returns-clause-exchanged
returns-clause-exchanged g c =
    let fewer : length (known_items c.has_room.new.self.spares) ≤ length (known_items c.pop.new.self) + 1 =
    omega (arith, length-prefix _ _ c.in-Ok.ensures.ok.1) in
    (search rules, search rules, search rules, omega (arith, fewer))
