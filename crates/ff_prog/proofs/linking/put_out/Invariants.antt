use Rattle.std.proofs.Common.{◌≡◌, drop}
use Rattle.ff_prog.specs.Writers.{out_names}
use Rattle.ff_prog.proofs.linking.put_out.Given as goal

-- no `out` so far
abbrev pub invariant-loop-statement : goal.invariant-loop-statement
invariant-loop-statement l = out_names l.statements ≡ out_names (drop l.statement-index l.statements)
