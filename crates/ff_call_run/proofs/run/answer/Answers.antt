-- The network ran by threads.
use Rattle.std.proofs.Common.{ap}
use Rattle.ff_net.specs.Tree.{tree_of}
use Rattle.ff_call_run.proofs.Answering.{Answered-job, Answered-threads}
use Rattle.ff_call.specs.Outside.{outside_of}
use Rattle.ff_call_run.specs.Running.{by_threads}
use Rattle.ff_call_run.proofs.run.answer.Goals as goal

pub returns-in-Threads-clause-ran : goal.returns-in-Threads-clause-ran
returns-in-Threads-clause-ran g c =
    let r = c.run_net in
    let seen = outside_of g.M.Files.Files.told g.M.Files.Files.faults g.M.Input.Source.left g.M.Input.Source.ended g.M.Input.Source.faults g.M.Out.Sink.taken g.M.Out.Sink.faults g.M.Spawner.Refusals.refused g.M.Spawner.Refusals.starts g.M.Spawner.Refusals.worked in
    let before = seen c.args.devices.now.files c.args.devices.now.input c.args.devices.now.out c.args.devices.now.spawner in
    let now = seen c.args.devices.now.files r.new.source r.new.sink r.new.spawner in
    let t = tree_of c.args.checked.net in
    let v = c.args.checked.version in
    let keep = c.is_some-keep.result in
    let tasks = c.args.order.now.tasks in
    let threads = by_threads c.args.order.now.way in
    Answered-job t v keep tasks c.args.order.now.rejects threads before now r.result c.requires.version c.is_some-keep.ensures
    (Answered-threads t v keep tasks threads before now r.result r.ensures.run r.ensures.work r.ensures.starts (ap by_threads c.in-Threads.is))
