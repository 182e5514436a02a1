-- The tabs within the limit are those of the line and those of the part within the room that is left.
use Rattle.std.proofs.Common.{◌++◌, take, sym, ap, ◌∙◌, arith, length-append}
use Rattle.ff_rec.specs.Lines.{tabs}
use Rattle.ff_rec.proofs.LineLimits.{tabs-room, line_fault-many, line_fault-long, line_fault-none}
use Rattle.ff_rec.proofs.line_reader.line.limit_of.Goals as goal

pub returns-then-tab_count-count_tabs-ge-MOST_FIELDS : goal.returns-then-tab_count-count_tabs-ge-MOST_FIELDS
returns-then-tab_count-count_tabs-ge-MOST_FIELDS c =
    let counted = c.count_tabs.ensures.count ∙ ap (λ k. tabs (take k c.args.part.now)) c.min.ensures in
    sym (line_fault-many c.args.limit c.args.number (c.args.line.now ++ c.args.part.now)
    (omega (arith, counted, c.requires.counted, tabs-room c.args.limit c.args.line.now c.args.part.now c.requires.short)))

pub returns-then-room-part : goal.returns-then-room-part
returns-then-room-part c =
    let counted = c.count_tabs.ensures.count ∙ ap (λ k. tabs (take k c.args.part.now)) c.min.ensures in
    sym (line_fault-long c.args.limit c.args.number (c.args.line.now ++ c.args.part.now)
    (omega (arith, counted, c.requires.counted, tabs-room c.args.limit c.args.line.now c.args.part.now c.requires.short))
    (omega (arith, length-append c.args.line.now c.args.part.now)))

pub returns : goal.returns
returns c =
    let counted = c.count_tabs.ensures.count ∙ ap (λ k. tabs (take k c.args.part.now)) c.min.ensures in
    sym (line_fault-none c.args.limit c.args.number (c.args.line.now ++ c.args.part.now)
    (omega (arith, counted, c.requires.counted, tabs-room c.args.limit c.args.line.now c.args.part.now c.requires.short))
    (omega (arith, length-append c.args.line.now c.args.part.now, c.requires.short)))
