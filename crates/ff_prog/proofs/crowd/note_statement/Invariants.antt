use Rattle.std.proofs.Common.{take}
use Rattle.ff_prog.specs.Known.{NotesNames}
use Rattle.ff_prog.proofs.crowd.note_statement.Given as goal

-- the names so far
abbrev pub invariant-loop-name : goal.invariant-loop-name
invariant-loop-name l = NotesNames l.initial.seen.keys l.seen.keys (take l.name-index l.name-items)
