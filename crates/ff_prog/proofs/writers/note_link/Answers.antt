-- What the map says of every key, at a key of these bytes.
use Rattle.std.proofs.Common.{subst}
use Rattle.ff_prog.specs.Known.{NotesLink}
use Rattle.ff_prog.proofs.writers.note_link.Goals as goal

pub returns : goal.returns
returns c =
    subst (λ m. NotesLink c.args.writers.now.entries c.insert.new.self.entries m c.args.link) c.bytes.ensures
    (λ n. c.in_ok-insert.ensures.updates.0 (record { ref_ptr = (0, 0); now = n }))
