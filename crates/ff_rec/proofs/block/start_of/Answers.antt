-- The loop goes from field to field.
use Rattle.std.proofs.Common.{◌<◌, suc, length, add-one, arith}
use Rattle.ff_rec.specs.Lines.{cut}
use Rattle.ff_rec.proofs.Places.{IsStart-first, IsStart-IsFieldEnd}
use Rattle.ff_rec.proofs.block.start_of.Goals as goal

pub loop-i-init : goal.loop-i-init
loop-i-init c = IsStart-first c.args.block.now.items

pub loop-i-preserved : goal.loop-i-preserved
loop-i-preserved c =
    let items = c.args.block.now.items in
    let below : suc c.loop-i.i < length (cut 9 items) = omega arith in
    rw (add-one c.loop-i.i) (IsStart-IsFieldEnd items c.loop-i.i c.loop-i.start c.field_end-start.result c.loop-i.invariant below c.field_end-start.ensures.end)
