-- The block ends with the part, and begins with it.
use Rattle.std.proofs.Common.{drop, sym, ap, ◌∙◌}
use Rattle.std.proofs.lemmas.Slice.{between_is}
use Rattle.ff_rec.proofs.bytes.long.keep.Goals as goal

pub returns : goal.returns
returns c =
    c.narrow.ensures ∙ ap (drop c.args.start) c.truncate.ensures.items ∙ sym (between_is c.args.block.now.items c.args.start c.args.end)
