-- A task was handed to the worker, and what it sent was sorted.
use Rattle.std.proofs.Common.{◌≡◌, true, ap, ◌∙◌, subst}
use Rattle.ff_node.specs.Sends.{add}
use Rattle.ff_net.specs.Levels.{meets}
use Rattle.ff_net.specs.Sorts.{HasSorted}
use Rattle.ff_mean.proofs.LevelSteps.{RunsLevelOn-next}
use Rattle.ff_mean.proofs.rounds.run_level.Goals as goal

pub loop-r-preserved : goal.loop-r-preserved
loop-r-preserved g c =
    let b = g.W.Node.does in
    let at = c.loop-r in
    let o = b.opening c.args.worker.now in
    let r = c.in-Some.r in
    let y = at.tasks in
    let fits : c.in_ok-sort.field-0 ≡ true = cc in
    let sorted = subst (λ all. HasSorted (meets c.args.test.now) y c.sort.new.tasks c.work.new.out c.sort.new.out all) fits c.in_ok-sort.ensures in
    let gathered : c.work.new.out ≡ add at.out (b.sends o r) (b.rejects o r) = c.in_ok-work.ensures.sends ∙ ap (λ s. add at.out (b.sends s r) (b.rejects s r)) at.invariant.kind in
    record {
      plain = c.in_ok-work.ensures.plain;
      kind = c.in_ok-work.ensures.kind ∙ at.invariant.kind;
      ran = RunsLevelOn-next (b.sends o) (b.rejects o) c.args.test.now c.args.level c.args.tasks.now y c.sort.new.tasks c.args.out.now at.out c.work.new.out c.sort.new.out r
          at.level c.take_first.new.self at.invariant.ran c.in-Some.ensures gathered sorted;
    }
