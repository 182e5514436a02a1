-- One deal more is done.
use Rattle.std.proofs.Common.{◌+◌, ◌-◌, [], ◌∷◌, ◌++◌, arith}
use Rattle.ff_plan.specs.AlikeRows.{row_of, deal_rows}
use Rattle.ff_plan.specs.Rows.{range}
use Rattle.ff_plan.proofs.Lefts.{left-times, deal_rows-left, done-one}
use Rattle.ff_plan.proofs.units.add_row_deals.Goals as goal

pub add_deal-requires : goal.add_deal-requires
add_deal-requires c = omega (arith, left-times c.loop-k.k c.args.count c.args.width c.loop-k-test.true)

pub loop-k-preserved : goal.loop-k-preserved
loop-k-preserved c =
    let k = c.loop-k.k in
    let n = c.args.count in
    let w = c.args.width in
    let at = c.args.at.now in
    let rows = deal_rows c.args.kind at w in
    record {
      all = done-one c.loop-k.units.items c.add_deal.new.units.items (rows (c.args.from + k) c.loop-k.row (n - k)) (rows (c.args.from + (k + 1)) (c.loop-k.row + w) (n - (k + 1)))
          (c.args.units.now.items ++ rows c.args.from c.args.first n) (row_of c.args.kind ((c.args.from + k) ∷ []) (range c.loop-k.row w) at)
          c.loop-k.invariant.all (deal_rows-left c.args.kind at w c.args.from c.loop-k.row k n c.loop-k-test.true) c.in_ok-add_deal.ensures;
      room = omega (arith, left-times k n w c.loop-k-test.true);
    }
