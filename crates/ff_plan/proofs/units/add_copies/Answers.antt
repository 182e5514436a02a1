-- One unit more is done.
use Rattle.std.proofs.Common.{◌+◌, ◌-◌, [], ◌∷◌, ◌++◌, ap, ◌∙◌}
use Rattle.ff_plan.specs.AlikeRows.{row_of, copied_rows}
use Rattle.ff_plan.proofs.Lefts.{copied_rows-left, done-one}
use Rattle.ff_plan.proofs.units.add_copies.Goals as goal

pub loop-k-preserved : goal.loop-k-preserved
loop-k-preserved c =
    let k = c.loop-k.k in
    let n = c.args.count in
    let i = c.args.from in
    let o = c.args.to in
    let at = c.args.at.now in
    let rows = copied_rows c.args.kind at in
    let row = row_of c.args.kind ((i + k) ∷ []) ((o + k) ∷ []) at in
    done-one c.loop-k.units.items c.add_unit.new.units.items (rows (i + k) (o + k) (n - k)) (rows (i + (k + 1)) (o + (k + 1)) (n - (k + 1)))
    (c.args.units.now.items ++ rows i o n) row c.loop-k.invariant (copied_rows-left c.args.kind at i o k n c.loop-k-test.true)
    (c.in_ok-add_unit.ensures
    ∙ ap (λ es. c.loop-k.units.items ++ row_of c.args.kind es c.in_ok-one.field-0.items at ∷ []) c.in_ok-ins.ensures
    ∙ ap (λ es. c.loop-k.units.items ++ row_of c.args.kind ((i + k) ∷ []) es at ∷ []) c.in_ok-one.ensures)
