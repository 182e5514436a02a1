use Rattle.std.proofs.Common.{◌≡◌}
use Rattle.ff_engine.specs.Seen.{caller_of}
use Rattle.ff_engine.proofs.caller.Caller.hand_over.Given as goal

-- nothing else changes
abbrev pub invariant-loop : goal.invariant-loop
invariant-loop g l = caller_of l.self ≡ caller_of l.initial.self
