use Rattle.std.proofs.Common.{◌≡◌, ◌+◌, drop}
use Rattle.std.specs.List.{prefix_len}
use Rattle.ff_prog.specs.Classes.{is_of}
use Rattle.ff_prog.proofs.byte_class.run_len.Given as goal

-- all bytes so far are of the class
abbrev pub invariant-loop-i : goal.invariant-loop-i
invariant-loop-i l = prefix_len (is_of l.class) l.bytes ≡ l.i + prefix_len (is_of l.class) (drop l.i l.bytes)
