-- The network ran, and the run was finished.
use Rattle.std.proofs.Common.{◌≡◌, subst, ◌∙◌}
use Rattle.std.proofs.lemmas.Bool.{MatchBool-at_true}
use Rattle.ff_net.specs.Tree.{tree_of}
use Rattle.ff_call_run.proofs.Answering.{Answered-files}
use Rattle.ff_call_run.proofs.Finished.{Ran-finished, HasCounts-finished, IsEarly-finished, IsSwept-finished, AllowedBy-may}
use Rattle.ff_call_run.specs.Finishing.{Finished}
use Rattle.ff_call.specs.Counts.{Files, count_by, raised}
use Rattle.ff_call.specs.Outside.{outside_of}
use Rattle.ff_call_run.specs.Running.{by_threads, CannotSweep, MayRun, run_job}
use Rattle.ff_call_run.proofs.run.run.Goals as goal

pub returns-clause-done : goal.returns-clause-done
returns-clause-done g c =
    let a = c.answer-answer in
    let b = a.new.devices in
    let told = g.M.Files.Files.told in
    let seen = outside_of told g.M.Files.Files.faults g.M.Input.Source.left g.M.Input.Source.ended g.M.Input.Source.faults g.M.Out.Sink.taken g.M.Out.Sink.faults g.M.Spawner.Refusals.refused g.M.Spawner.Refusals.starts g.M.Spawner.Refusals.worked in
    let before = seen c.args.devices.now.files c.args.devices.now.input c.args.devices.now.out c.args.devices.now.spawner in
    let now = seen c.finish.new.files b.input b.out b.spawner in
    let t = tree_of c.args.checked.net in
    let tasks = c.args.order.tasks in
    let rejects = c.args.order.rejects in
    let threads = by_threads c.args.order.way in
    let way = c.args.order.way in
    let is_swept = IsSwept-finished tasks rejects a.result _ _ c.finish.result c.finish.ensures.ends in (
      AllowedBy-may way t c.finish.result is_swept (MatchBool-at_true (MayRun way t) (CannotSweep way t) c.if-not-may_run.false c.may_run.ensures),
      Ran-finished t tasks threads rejects before now a.result c.finish.result
          (Answered-files (run_job t tasks rejects) threads before now (told b.files) (g.M.Files.Files.faults b.files) a.result a.ensures.ran) a.ensures.input_faults
          (subst (λ files. Finished tasks rejects a.result (told files) (told c.finish.new.files) c.finish.result) a.ensures.files c.finish.ensures.ends),
    )

pub returns-clause-counts : goal.returns-clause-counts
returns-clause-counts g c =
    let a = c.answer-answer in
    let b = a.new.devices in
    let d = c.args.devices.now in
    let has = HasCounts-finished (g.M.Input.Source.faults d.input) (g.M.Input.Source.faults b.input) (g.M.Out.Sink.faults d.out) (g.M.Spawner.Refusals.refused d.spawner)
    c.args.order.tasks c.args.order.rejects (g.M.Files.Files.told b.files) (g.M.Files.Files.told c.finish.new.files)
    a.result c.finish.result a.ensures.input_faults c.finish.ensures.ends in
    record {
      files = subst (λ files. g.M.Files.Files.faults c.finish.new.files ≡ count_by (raised Files) (g.M.Files.Files.faults files) c.finish.result) a.ensures.files c.finish.ensures.counts;
      input = has.0;
      output = a.ensures.output_faults ∙ has.1;
      starts = a.ensures.refusals ∙ has.2;
    }

pub returns-clause-unread : goal.returns-clause-unread
returns-clause-unread g c early =
    let a = c.answer-answer in
    a.ensures.unread (IsEarly-finished c.args.order.tasks c.args.order.rejects a.result _ _ c.finish.result c.finish.ensures.ends early)
