use Rattle.std.proofs.Common.{◌≡◌, take}
use Rattle.ff_soak.specs.Networks.{numbered}
use Rattle.ff_soak.proofs.network.operation.Given as goal

abbrev pub invariant-loop-n : goal.invariant-loop-n
invariant-loop-n l = l.args.items ≡ numbered (take l.n-index l.numbers)
