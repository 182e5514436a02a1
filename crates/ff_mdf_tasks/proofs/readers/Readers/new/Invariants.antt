use Rattle.ff_mdf_tasks.specs.Sources.{ReadersUntil}
use Rattle.ff_mdf_tasks.proofs.readers.Readers.new.Given as goal

-- the readers among the operands so far
abbrev pub invariant-loop-t : goal.invariant-loop-t
invariant-loop-t l = ReadersUntil l.program l.t l.latest.items l.earlier.items
