-- The field goes with the tab behind it, or at the end with the one before it.
use Rattle.std.proofs.Common.{◌≤◌, ◌<◌, length, ap, ◌∙◌, arith}
use Rattle.ff_rec.specs.Lines.{cut}
use Rattle.ff_rec.specs.Stored.{Stored}
use Rattle.ff_rec.proofs.Edits.{cut-removed, cut-removed_last}
use Rattle.ff_rec.proofs.block.edits.take_out.Goals as goal

pub overflow_sub-start : goal.overflow_sub-start
overflow_sub-start c =
    let b = c.args.block.now.items in
    let over : length b ≤ c.place-start.result.1 = omega (arith, ap length c.as_slice-len.ensures) in
    (cut-removed_last b c.args.k c.place-start.result.0 c.place-start.result.1 c.place-start.ensures over c.requires.there c.requires.others).0

pub returns-then-end-len-clause-fields : goal.returns-then-end-len-clause-fields
returns-then-end-len-clause-fields c =
    let b = c.args.block.now.items in
    let more : c.place-start.result.1 < length b = omega (arith, ap length c.as_slice-len.ensures) in
    ap (λ (b : Stored). cut 9 b.items) c.remove.ensures
    ∙ cut-removed b c.args.k c.place-start.result.0 c.place-start.result.1 c.place-start.ensures more

pub returns-else-end-len-clause-fields : goal.returns-else-end-len-clause-fields
returns-else-end-len-clause-fields c =
    let b = c.args.block.now.items in
    let over : length b ≤ c.place-start.result.1 = omega (arith, ap length c.as_slice-len.ensures) in
    ap (λ (b : Stored). cut 9 b.items) c.remove-else-end-len.ensures
    ∙ (cut-removed_last b c.args.k c.place-start.result.0 c.place-start.result.1 c.place-start.ensures over c.requires.there c.requires.others).1
