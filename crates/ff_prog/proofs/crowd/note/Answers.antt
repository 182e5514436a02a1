-- What the set says of every key, at a key of these bytes.
use Rattle.std.proofs.Common.{[], ◌∷◌, subst}
use Rattle.ff_prog.specs.Known.{NotesNames}
use Rattle.ff_prog.proofs.NameSets.{NotesNames-insert}
use Rattle.ff_prog.proofs.crowd.note.Goals as goal

pub returns : goal.returns
returns c =
    let put = c.in_ok-insert.ensures in
    let old = c.args.seen.now.keys in
    let new = c.insert.new.self.keys in
    subst (λ m. NotesNames old new (m ∷ [])) c.bytes.ensures
    (NotesNames-insert old new c.bytes.result.now c.in_ok-insert.field-0 put.added
    (λ n. put.updates.0 (record { ref_ptr = (0, 0); now = n }))
    put.len)
