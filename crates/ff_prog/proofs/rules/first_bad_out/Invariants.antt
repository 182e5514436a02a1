use Rattle.std.proofs.Common.{◌≡◌, ◌-◌, length}
use Rattle.ff_prog.specs.Rules.{breaks_out, first_at, first_from}
use Rattle.ff_prog.proofs.rules.first_bad_out.Given as goal

-- no statement so far is a bad `out`
abbrev pub invariant-loop-k : goal.invariant-loop-k
invariant-loop-k l = first_at breaks_out l.statements ≡ first_from (breaks_out l.statements) l.k (length l.statements - l.k)
