use Rattle.std.proofs.Common.{◌≡◌, take}
use Rattle.ff_ops.proofs.op.arguments.copies.Given as goal

-- the arguments up to here are copied
abbrev pub invariant-loop-arg : goal.invariant-loop-arg
invariant-loop-arg l = l.copies.items ≡ take l.arg-index l.args
