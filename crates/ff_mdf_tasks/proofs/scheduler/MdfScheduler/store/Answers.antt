-- The entry of one name more.
use Rattle.std.proofs.Common.{◌∙◌, length}
use Rattle.ff_mdf.proofs.Entries.{map-valued-push}
use Rattle.ff_mdf.specs.Orders.{by_backs}
use Rattle.ff_mdf_tasks.specs.Tasks.{came_back}
use Rattle.ff_mdf_tasks.proofs.SchedulerViews.{value-out}
use Rattle.ff_mdf_tasks.proofs.scheduler.MdfScheduler.store.Goals as goal

pub loop-k-preserved : goal.loop-k-preserved
loop-k-preserved c =
    let s = c.args.self.now in
    let names = c.out_names-names.result.now in
    let k = c.loop-k.k in
    let n = c.index-names-k.result in
    let value = c.value_linked.ensures ∙ value-out _ s c.self.view_is c.requires c.as_slice.result.now c.out_links-links.result.now names k n
    c.as_slice.ensures.value c.out_links-links.ensures c.out_names-names.ensures c.loop-k-test.true c.index-names-k.is in
    map-valued-push (by_backs s.program (came_back s.events) (length s.program)) c.loop-k.store c.push.new.self names k n c.value_linked.result c.loop-k-test.true
    c.index-names-k.is c.loop-k.invariant c.in_ok-push.ensures.ok value
