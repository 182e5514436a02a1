use Rattle.std.proofs.Common.{◌≡◌}
use Rattle.ff_engine.specs.Callers.{SameRings, TakesMore}
use Rattle.ff_engine.specs.Seen.{caller_of}
use Rattle.ff_engine.proofs.caller.Caller.feed_dropping.Given as goal

-- what came so far
abbrev pub invariant-loop : goal.invariant-loop
invariant-loop g l = record {
  put : (caller_of l.self).put ≡ (caller_of l.initial.self).put;
  more : TakesMore (caller_of l.initial.self) (caller_of l.self);
  rings : SameRings (caller_of l.initial.self) (caller_of l.self);
  message : l.m ≡ l.fn.m;
}
