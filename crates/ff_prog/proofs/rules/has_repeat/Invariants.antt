use Rattle.std.proofs.Common.{◌≡◌, drop}
use Rattle.ff_prog.specs.Rules.{has_repeat}
use Rattle.ff_prog.proofs.rules.has_repeat.Given as goal

-- no name so far stands again behind itself
abbrev pub invariant-loop-i : goal.invariant-loop-i
invariant-loop-i l = has_repeat l.names ≡ has_repeat (drop l.i l.names)
