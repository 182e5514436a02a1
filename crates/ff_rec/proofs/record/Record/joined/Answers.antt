-- The block is the fields joined.
use Rattle.std.proofs.Common.{sym, ap, ◌∙◌}
use Rattle.ff_rec.specs.Lines.{joined}
use Rattle.ff_rec.proofs.Joins.{joined-cut}
use Rattle.ff_rec.proofs.record.Record.joined.Goals as goal

pub returns : goal.returns
returns c = c.as_slice.ensures ∙ sym (joined-cut c.self.inside.block.items) ∙ ap joined c.self.view_is
