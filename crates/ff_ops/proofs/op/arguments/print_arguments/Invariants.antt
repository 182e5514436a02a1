use Rattle.std.proofs.Common.{◌≡◌, ◌++◌, take}
use Rattle.ff_ops.specs.Operation.{printed_arguments}
use Rattle.ff_ops.proofs.op.arguments.print_arguments.Given as goal

-- the arguments up to here are printed
abbrev pub invariant-loop-arg : goal.invariant-loop-arg
invariant-loop-arg l = l.into.items ≡ l.fn.into.items ++ printed_arguments (take l.arg-index l.args)
