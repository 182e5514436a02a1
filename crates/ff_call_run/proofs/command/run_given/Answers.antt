-- The network that is given was run.
use Rattle.std.proofs.Common.{inr}
use Rattle.ff_net.specs.Tree.{tree_of}
use Rattle.ff_call_run.proofs.Early.{Ran-early, Counts-early}
use Rattle.ff_call_run.specs.Running.{by_threads, run_job}
use Rattle.ff_call_run.proofs.command.run_given.Goals as goal

pub returns-in-Ok-clause-handled : goal.returns-in-Ok-clause-handled
returns-in-Ok-clause-handled g c =
    let mid = c.read_given.new.files in
    let order = c.args.order in
    let t = tree_of c.in-Ok.checked.net in
    inr (record {
      net = t;
      spelled = c.in-Ok.ensures.ok;
      done = (
        c.run.ensures.done.0,
        Ran-early (run_job t order.tasks order.rejects) (by_threads order.way) order.rejects _ _ (g.M.Files.Files.told mid) (g.M.Files.Files.faults mid) c.in-Ok.ensures.keeps
            c.run.result c.run.ensures.done.1,
      );
    })

pub returns-in-Ok-clause-counts : goal.returns-in-Ok-clause-counts
returns-in-Ok-clause-counts g c =
    let mid = c.read_given.new.files in
    let order = c.args.order in
    let t = tree_of c.in-Ok.checked.net in
    Counts-early (run_job t order.tasks order.rejects) (by_threads order.way) order.rejects _ _ (g.M.Files.Files.told mid) (g.M.Files.Files.faults mid) c.in-Ok.ensures.keeps
    c.run.result c.in-Ok.ensures.counts c.run.ensures.counts
