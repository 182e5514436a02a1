-- A part was run, or one is over its limit, or none is left.
use Rattle.std.proofs.Common.{◌+◌, drop, subst, ap}
use Rattle.std.proofs.lemmas.List.{drop_all}
use Rattle.ff_net.specs.Tree.{tree_of, trees_of}
use Rattle.ff_mean.specs.Gathering.{HasRunNet}
use Rattle.ff_mean.proofs.PartSteps.{PartsLeft-next, HasRunParts-over, HasRunParts-end, trees_of-drop}
use Rattle.ff_mean.proofs.part.run_parts.Goals as goal

pub loop-part-preserved : goal.loop-part-preserved
loop-part-preserved g c =
    let b = g.N.Node.does in
    let at = c.loop-part in
    let ts = c.args.parts.now in
    let t = c.part-item.result in
    let ran = subst (λ answer. HasRunNet b c.args.limit (tree_of t) at.records at.out c.run_part.new.out answer) c.in-Some.is c.in_ok-given.ensures in
    PartsLeft-next b c.args.limit (trees_of ts) c.args.input c.args.out.now (trees_of (drop at.part-index ts)) (tree_of t) (trees_of (drop (at.part-index + 1) ts)) at.records
    c.in-Some.given at.out c.run_part.new.out at.invariant (trees_of-drop ts at.part-index t c.loop-part-test.true c.part-item.is) ran

pub returns-in_default : goal.returns-in_default
returns-in_default g c =
    let b = g.N.Node.does in
    let at = c.loop-part in
    let ts = c.args.parts.now in
    let t = c.part-item.result in
    let over = subst (λ answer. HasRunNet b c.args.limit (tree_of t) at.records at.out c.run_part.new.out answer) c.in_default.is c.in_ok-given.ensures in
    HasRunParts-over b c.args.limit (trees_of ts) c.args.input c.args.out.now (trees_of (drop at.part-index ts)) (tree_of t) (trees_of (drop (at.part-index + 1) ts)) at.records
    at.out c.run_part.new.out at.invariant (trees_of-drop ts at.part-index t c.loop-part-test.true c.part-item.is) over

pub returns : goal.returns
returns g c =
    let at = c.loop-part in
    let ts = c.args.parts.now in
    let none_left = drop_all at.part-index ts c.loop-part-test.false in
    HasRunParts-end g.N.Node.does c.args.limit (trees_of ts) c.args.input c.args.out.now (trees_of (drop at.part-index ts)) at.records at.out at.invariant (ap trees_of none_left)
