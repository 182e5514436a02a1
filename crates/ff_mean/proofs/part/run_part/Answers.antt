-- A wrap, or a network without feedback.
use Rattle.std.proofs.Common.{◌≡◌}
use Rattle.ff_net.specs.Meaning.{mean, mean_rejected}
use Rattle.ff_net.specs.Tree.{tree_of}
use Rattle.ff_mean.specs.Gathering.{HasRunNet, HasRunRounds}
use Rattle.ff_mean.proofs.PartSteps.{IfOk-map, HasRunNet-pipeline, HasRunNet-wrap, no_wrap_there}
use Rattle.ff_mean.proofs.part.run_part.Goals as goal

pub returns-in-Wrap : goal.returns-in-Wrap
returns-in-Wrap g c =
    let b = g.N.Node.does in
    let m = c.args.limit in
    let v = c.deref.result.now in
    let p = c.in-Wrap.test in
    let after = c.run_wrap.new.out in
    let inner : v ≡ c.in-Wrap.worker.value = cc in
    IfOk-map (λ answer. HasRunRounds (mean b m (tree_of v)) (mean_rejected b m (tree_of v)) p m c.args.input c.args.out.now after answer)
    (λ answer. HasRunNet b m (tree_of c.args.part.now) c.args.input c.args.out.now after answer)
    (λ answer ran. HasRunNet-wrap b m c.args.part.now v c.in-Wrap.workers c.in-Wrap.worker p c.args.input c.args.out.now after c.in-Wrap.is inner answer ran)
    c.run_wrap.result c.run_wrap.ensures

pub returns : goal.returns
returns g c =
    let no_wrap = no_wrap_there c.args.part.now c.in_default.not-Wrap c.requires.wraps in
    HasRunNet-pipeline g.N.Node.does c.args.limit g.met.N.Node.keeps_kind (tree_of c.args.part.now) c.in_ok-nodes.field-0.items c.args.input c.in_ok-run_pipeline.field-0
    c.args.out.now c.run_pipeline.new.out no_wrap c.in_ok-nodes.ensures c.in_ok-run_pipeline.ensures.sent c.in_ok-run_pipeline.ensures.rejected
