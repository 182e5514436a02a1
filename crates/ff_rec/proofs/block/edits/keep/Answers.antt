-- What stands from the field's start up to its end.
use Rattle.std.proofs.Common.{List, ℕ, ap, ◌∙◌}
use Rattle.ff_rec.specs.Stored.{stored_as}
use Rattle.ff_rec.proofs.block.edits.keep.Goals as goal

pub returns : goal.returns
returns c = c.keep.ensures ∙ ap (λ (q : List ℕ). stored_as q c.args.block.now.count) c.place-start.ensures.here
