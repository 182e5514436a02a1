-- The names of the parts, one after the other.
use Rattle.std.proofs.Common.{[], ◌∷◌, ◌++◌, subst, sym, Some}
use Rattle.std.proofs.lemmas.Result.{on_ok_weaker}
use Rattle.ff_prog.specs.Known.{NotesNames}
use Rattle.ff_prog.specs.Names.{names_of, second_name}
use Rattle.ff_prog.specs.Writers.{name_in, name_if}
use Rattle.ff_prog.specs.declared.statement.Statement.{Statement}
use Rattle.ff_prog.proofs.NameSets.{NotesNames-append, NotesNames-take}
use Rattle.ff_prog.proofs.crowd.note_statement.Goals as goal

pub loop-name-preserved : goal.loop-name-preserved
loop-name-preserved c =
    NotesNames-take c.args.seen.now.keys c.loop-name.seen.keys c.note-in-loop-name.new.seen.keys c.as_slice-name-items.result.now c.loop-name.name-index c.name-item.result
    c.loop-name-test.true
    c.name-item.is
    c.loop-name.invariant
    c.in_ok-note-in-Out.ensures

pub returns-in_ok-note_operand_if-in-Task : goal.returns-in_ok-note_operand_if-in-Task
returns-in_ok-note_operand_if-in-Task c =
    let old = c.args.seen.now.keys in
    let t = c.in-Task in
    let new = c.note_operand_if-in-Task.new.seen.keys in
    let from_b = name_if t.b ++ name_if t.c in
    let from_a = name_in t.a ++ from_b in
    on_ok_weaker c.note_operand_if-in-Task.result
    (λ last. subst (λ (s : Statement). NotesNames old new (names_of (Some s))) (sym t.is)
    (NotesNames-append old c.note.new.seen.keys new (t.first ∷ []) (second_name t.second ++ from_a) c.in_ok-note-in-Task.ensures
    (NotesNames-append c.note.new.seen.keys c.note_second.new.seen.keys new (second_name t.second) from_a c.in_ok-note_second-in-Task.ensures
    (NotesNames-append c.note_second.new.seen.keys c.note_operand.new.seen.keys new (name_in t.a) from_b c.in_ok-note_operand-in-Task.ensures
    (NotesNames-append c.note_operand.new.seen.keys c.note_operand_if.new.seen.keys new (name_if t.b) (name_if t.c) c.in_ok-note_operand_if-in-Task.ensures last)))))
    c.note_operand_if-in-Task.ensures
