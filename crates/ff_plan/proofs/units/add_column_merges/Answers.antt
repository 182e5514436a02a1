-- One merge more is done.
use Rattle.std.proofs.Common.{◌+◌, ◌-◌, [], ◌∷◌, ◌++◌, ap, ◌∙◌}
use Rattle.ff_plan.specs.AlikeRows.{row_of, merge_rows}
use Rattle.ff_plan.specs.declared.kind.UnitKind.TheVariants.{Merge}
use Rattle.ff_plan.specs.Rows.{stride}
use Rattle.ff_plan.proofs.Lefts.{merge_rows-left, done-one}
use Rattle.ff_plan.proofs.units.add_column_merges.Goals as goal

pub loop-k-preserved : goal.loop-k-preserved
loop-k-preserved c =
    let k = c.loop-k.k in
    let n = c.args.rows in
    let w = c.args.width in
    let i = c.args.first in
    let o = c.args.to in
    let at = c.args.at.now in
    let rows = merge_rows at n w in
    done-one c.loop-k.units.items c.add_unit.new.units.items (rows (i + k) (o + k) (w - k)) (rows (i + (k + 1)) (o + (k + 1)) (w - (k + 1)))
    (c.args.units.now.items ++ rows i o w) (row_of Merge (stride w (i + k) n) ((o + k) ∷ []) at) c.loop-k.invariant (merge_rows-left at n w i o k w c.loop-k-test.true)
    (c.in_ok-add_unit.ensures
    ∙ ap (λ es. c.loop-k.units.items ++ row_of Merge es c.in_ok-one.field-0.items at ∷ []) c.in_ok-ins.ensures
    ∙ ap (λ es. c.loop-k.units.items ++ row_of Merge (stride w (i + k) n) es at ∷ []) c.in_ok-one.ensures)
