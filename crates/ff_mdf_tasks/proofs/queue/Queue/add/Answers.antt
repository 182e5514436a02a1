-- A number is marked when it is added.
use Rattle.std.proofs.Common.{◌<◌, true, false, set, sym, subst, ◌∙◌}
use Rattle.std.proofs.lemmas.List.{get_or_default}
use Rattle.ff_mdf_tasks.specs.Queues.{AreMarked, QueueState}
use Rattle.ff_mdf_tasks.proofs.QueueLaws.{AreMarked-add}
use Rattle.ff_mdf_tasks.proofs.queue.Queue.add.Goals as goal

pub invariant_of-self-2 : goal.invariant_of-self-2
invariant_of-self-2 c =
    let has = c.self.inside.has.items in
    let k = c.args.k in
    let below = subst (λ (q : QueueState). k < q.size) (sym c.self.view_is) c.requires in
    let unmarked = get_or_default has k false c.index.result.now below ∙ sym c.index.ensures ∙ c.if-index.false in
    subst (λ xs. AreMarked (set has k true) xs) (sym c.in_ok-push.ensures.items)
    (AreMarked-add has c.self.inside.order.items k c.self.invariant below unmarked)
