-- One message more.
use Rattle.std.proofs.Common.{◌∙◌}
use Rattle.ff_engine.specs.Seen.{caller_of}
use Rattle.ff_engine.proofs.Callings.{SameRings-trans, TakesMore-trans}
use Rattle.ff_engine.proofs.caller.Caller.drop_rest.Goals as goal

pub loop-preserved : goal.loop-preserved
loop-preserved g c = record {
  put = c.drop_ready.ensures.put ∙ c.loop.invariant.put;
  more = TakesMore-trans (caller_of c.args.self.now) (caller_of c.loop.self) (caller_of c.drop_ready.new.self) c.loop.invariant.more c.drop_ready.ensures.more;
  rings = SameRings-trans (caller_of c.args.self.now) (caller_of c.loop.self) (caller_of c.drop_ready.new.self) c.loop.invariant.rings c.drop_ready.ensures.rings;
}
