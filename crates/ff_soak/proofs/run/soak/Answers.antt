use Rattle.std.proofs.Common.{◌+◌, false, Err, sym, ap, ap₂, ◌∙◌, subst}
use Rattle.ff_rec.specs.Lines.{records}
use Rattle.ff_net.specs.Counts.{units}
use Rattle.ff_net.specs.Tree.{tree_of}
use Rattle.ff_ops.specs.Operation.{op_node}
use Rattle.ff_spawn.specs.Counts.{RoseBy}
use Rattle.ff_stream.specs.Jobs.{job}
use Rattle.ff_stream.specs.declared.ending.Ending.{Ending}
use Rattle.ff_engine.specs.Runs.{NetRan}
use Rattle.ff_soak.specs.Faults.{refused_count}
use Rattle.ff_soak.specs.Summaries.{summary_of}
use Rattle.ff_soak.specs.declared.summary.Summary.{Summary}
use Rattle.ff_soak.proofs.Causes.{refused_count-cause_of}
use Rattle.ff_soak.proofs.Runs.{soak_streams, summary_of-run, length-run, not_overrun}
use Rattle.ff_soak.proofs.run.soak.Goals as goal

pub returns-in-Ok-clause-summary : goal.returns-in-Ok-clause-summary
returns-in-Ok-clause-summary g c = λ limit w.
    let checked = c.in_ok-checked.checked in
    let ran = c.run_net-answer.new in
    c.summarize.ensures ∙ ap (λ bytes. summary_of c.args.n (records bytes)) c.taken.ensures
    ∙ summary_of-run (tree_of checked.net) checked.version 0 c.args.workers c.args.n c.in_ok-source.source ran.source c.new-sink.result ran.sink c.in-Ok.field-0
    c.requires.records c.in_ok-checked.ensures c.in_ok-source.ensures c.new-sink.ensures c.in-Ok.ensures.run c.in-Ok.ensures.input_faults w

pub returns-in-Ok-clause-work : goal.returns-in-Ok-clause-work
returns-in-Ok-clause-work g c =
    let checked = c.in_ok-checked.checked in
    let ran = c.run_net-answer.new in
    let work = c.in-Ok.ensures.work in
    let all = length-run (tree_of checked.net) checked.version 0 c.args.workers c.args.n c.in_ok-source.source ran.source c.new-sink.result ran.sink c.in-Ok.field-0
    c.requires.records c.in_ok-checked.ensures c.in_ok-source.ensures c.new-sink.ensures work.run c.in-Ok.ensures.input_faults in
    subst (λ k. RoseBy k (g.S.Refusals.worked c.args.spawner.now) (g.S.Refusals.worked ran.spawner)) (ap₂ (λ a b. a + b) (ap units c.in_ok-checked.ensures) all) work.told

pub told-requires : goal.told-requires
told-requires g c = λ tasks.
    let checked = c.in_ok-checked.checked in
    let ran = c.run_net-answer.new in
    let streams = soak_streams c.in_ok-source.source ran.source c.new-sink.result ran.sink in
    not_overrun (tree_of checked.net) checked.version 0 c.args.workers streams c.in_ok-checked.ensures
    (subst (λ fault. NetRan (job op_node (tree_of checked.net) checked.version 0 false) streams (Err fault)) tasks c.in-Err.ensures.run)

pub returns-clause-refusals : goal.returns-clause-refusals
returns-clause-refusals g c =
    c.in-Err.ensures.refusals ∙ refused_count-cause_of Ending Summary (g.S.Refusals.refused c.args.spawner.now) c.in-Err.fault
    ∙ ap (λ cause. refused_count {A = Summary} (g.S.Refusals.refused c.args.spawner.now) (Err cause)) (sym c.told.ensures)
