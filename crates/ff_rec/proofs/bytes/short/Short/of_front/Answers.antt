-- The room is filled, and its first bytes are those of the text.
use Rattle.std.proofs.Common.{take, ap, ◌∙◌}
use Rattle.std.proofs.lemmas.List.{take-take}
use Rattle.ff_rec.proofs.bytes.short.Short.of_front.Goals as goal

pub returns : goal.returns
returns c = ap (take c.args.len) c.copy_from_slice.ensures.after ∙ take-take c.args.len 31 c.args.text.now c.requires.few
