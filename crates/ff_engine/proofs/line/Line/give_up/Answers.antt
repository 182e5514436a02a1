-- Abort was put behind the records.
use denote.Param.Send.{sendable}
use Rattle.std.proofs.Crossing.{crosses}
use Rattle.ff_ring.specs.Ends.{got_of, put_of}
use Rattle.ff_engine.specs.Seen.{caller_of}
use Rattle.ff_engine.proofs.LineEnds.{IsOpen-put, IsOpen-stopped}
use Rattle.ff_engine.proofs.UnitSent.{IsSend-unit}
use Rattle.ff_engine.proofs.line.Line.give_up.Goals as goal

pub stop-requires : goal.stop-requires
stop-requires g c = IsOpen-put (caller_of c.args.self.caller).put c.args.self.open

pub returns-clause-opens : goal.returns-clause-opens
returns-clause-opens g c =
    let b = g.N.Node.does in
    λ j halt xs front at.
    IsOpen-stopped b j halt (caller_of c.args.self.caller) (caller_of c.stop.new.self) c.args.self.crew xs front at
    (put_of c.into_parts-first.result.0) c.join.result.items (got_of c.into_parts-first.result.1) _ _ c.join.ensures.joined
    c.into_parts-first.ensures.put c.into_parts-first.ensures.got c.stop.ensures.put c.stop.ensures.more

pub join-requires-send-U : goal.join-requires-send-U
join-requires-send-U g c κs within = let u = IsSend-unit _ c.type_bounds.send-N in search (sendable, crosses) depth 20
