use Rattle.std.proofs.Common.{◌≡◌, ◌+◌, ap, ap₂, ◌∙◌, arith, rules}
use Rattle.ff_rec.specs.Lines.{tabs}
use Rattle.ff_rec.proofs.TabCounts.{tabs-split}
use Rattle.ff_rec.proofs.tabs.count_tabs.Goals as goal

pub loop-rest-preserved : goal.loop-rest-preserved
loop-rest-preserved c =
    let part = c.split_at.result.0.now in
    let behind = c.split_at.result.1.now in
    let split : tabs part + tabs behind ≡ tabs c.loop-rest.rest.now =
    ap₂ ◌+◌ (ap tabs c.split_at.ensures.front) (ap tabs c.split_at.ensures.back) ∙ tabs-split c.loop-rest.rest.now _ in
    record {
      told = omega (arith, split, c.from-count.ensures, c.count_few.ensures.count, c.loop-rest.invariant.told);
      within = search rules;
    }
