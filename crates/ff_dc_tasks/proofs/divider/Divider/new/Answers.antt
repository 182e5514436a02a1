use Rattle.ff_dc_tasks.proofs.Proper.{division-proper}
use Rattle.ff_dc_tasks.proofs.DividerViews.{IsOpened-by}
use Rattle.ff_dc_tasks.proofs.divider.Divider.new.Goals as goal

pub returns : goal.returns
returns g c =
    let rule = g.F.RuleFunctions.rule c.args.functions in
    let proper = division-proper rule c.args.cut c.args.whole c.requires.cut c.requires.part in
    IsOpened-by rule c.args.cut c.args.whole c.in_ok-new.field-0 c.new-2.result.items c.new-3.result c.new-4.result
    proper.0 proper.1 c.in_ok-new.ensures c.new-2.ensures.items c.new-3.ensures c.new-4.ensures
