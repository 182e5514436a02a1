use Rattle.std.proofs.Common.{subst, All}
use Rattle.ff_rec.specs.Number.{IsNumber}
use Rattle.ff_dc.specs.Dividing.{IsAsked}
use Rattle.ff_dc_tasks.proofs.Proper.{IsInReach-part}
use Rattle.ff_dc_tasks.proofs.Running.{values-ran, value-ran, work-ran}
use Rattle.ff_dc_tasks.proofs.run.run_dc.Goals as goal

pub new-requires-clause-part : goal.new-requires-clause-part
new-requires-clause-part g c = IsInReach-part (g.F.RuleFunctions.rule c.args.functions) c.args.cut c.args.numbers.now c.args.part
    c.requires.numbers c.requires.part c.requires.near

pub values-requires : goal.values-requires
values-requires g c = values-ran (g.F.RuleFunctions.rule c.args.functions) c.args.cut c.args.part c.in_ok-divider.ensures c.in_ok-divider-2.ensures.ran

pub returns-clause-value : goal.returns-clause-value
returns-clause-value g c =
    let asked : IsAsked (g.F.RuleFunctions.rule c.args.functions) c.args.cut c.args.numbers.now c.args.part = record {
      cuts = c.requires.cut_low;
      few = c.requires.numbers;
      numbers = subst (All IsNumber) c.as_slice-numbers.ensures.same c.as_slice-numbers.ensures.numbers;
      part = c.requires.part;
    } in
    value-ran (g.F.RuleFunctions.rule c.args.functions) c.args.cut c.args.part c.in_ok-divider.ensures c.in_ok-divider-2.ensures.ran
    c.args.numbers.now c.values.result c.in_ok-divider-2.ensures.answers c.in_ok-handlers.ensures.alike asked c.values.ensures

pub returns-clause-worked : goal.returns-clause-worked
returns-clause-worked g c = work-ran (g.F.RuleFunctions.rule c.args.functions) c.args.cut c.args.part c.in_ok-divider.ensures c.in_ok-divider-2.ensures.ran
