use Rattle.std.proofs.Common.{◌≡◌}
use Rattle.rtrb.specs.Ring.{received, SameConsumer}
use Rattle.ff_spawn.proofs.runner.receive.Given as goal

-- nothing was taken yet
abbrev pub invariant-loop : goal.invariant-loop
invariant-loop g l =
    SameConsumer l.initial.consumer l.consumer × (received l.consumer ≡ received l.initial.consumer)
