use Rattle.std.proofs.Common.{◌≡◌, false, replicate}
use Rattle.ff_node.specs.Sends.{nothing_sent}
use Rattle.ff_loop.proofs.wrap_master.no_parts.Given as goal

abbrev pub invariant-loop : goal.invariant-loop
invariant-loop l = l.parts.items ≡ replicate l.counter (nothing_sent false)
