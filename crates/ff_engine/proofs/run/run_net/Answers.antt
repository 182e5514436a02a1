-- The network was prepared, its threads were started, and the stream went through them.
use denote.Param.Send.{sendable}
use Rattle.std.proofs.Crossing.{crosses}
use Rattle.std.proofs.Common.{◌≡◌, ◌+◌, length, map, refl, sym, ap, ◌∙◌, subst}
use Rattle.ff_net.specs.Counts.{units}
use Rattle.ff_net.specs.Tree.{tree_of}
use Rattle.ff_spawn.specs.Counts.{RoseBy}
use Rattle.ff_spawn.specs.CountLaws.{RoseBy-count_more}
use Rattle.ff_stream.specs.Endings.{Told}
use Rattle.ff_stream.specs.Jobs.{job}
use Rattle.ff_stream.specs.Streams.{streams}
use Rattle.ff_stream.proofs.Endings.{IsCutShort-none}
use Rattle.ff_engine.specs.RingSizes.{plan_size, AreSized}
use Rattle.ff_engine.specs.Seen.{caller_of}
use Rattle.ff_engine.proofs.NetStarts.{HasFed-prepared, NetRan-denied, length-prepared}
use Rattle.ff_engine.proofs.UnitSent.{IsSend-unit}
use Rattle.ff_engine.proofs.run.run_net.Goals as goal

pub returns-in_default-clause-run : goal.returns-in_default-clause-run
returns-in_default-clause-run g c = IsCutShort-none _ _ refl refl

pub run_line-requires-after_bounds : goal.run_line-requires-after_bounds
run_line-requires-after_bounds g c κs within =
    let net = c.args.checked.now in
    let p = c.in-Ok.prepared in (
      job g.N.Node.does (tree_of net.net) net.version c.args.limit c.args.keep,
      sym c.version.ensures,
      HasFed-prepared g.N.Node.does (tree_of net.net) net.version c.args.limit c.args.keep c.plans_keep_laws.ensures _ _
          (caller_of p.caller) (caller_of c.in-Ok-start.caller) p.jobs.items c.in-Ok-start.crew _ _ _ _ c.in-Ok-start.ensures.caller c.in-Ok-start.ensures.crew _ _ c.in-Ok.ensures,
    )

pub returns-in-Ok-run_line-clause-run : goal.returns-in-Ok-run_line-clause-run
returns-in-Ok-run_line-clause-run g c =
    let net = c.args.checked.now in
    let p = c.in-Ok.prepared in
    c.in-Ok-run_line.ensures.run (job g.N.Node.does (tree_of net.net) net.version c.args.limit c.args.keep) (sym c.version.ensures)
    (HasFed-prepared g.N.Node.does (tree_of net.net) net.version c.args.limit c.args.keep c.plans_keep_laws.ensures _ _
    (caller_of p.caller) (caller_of c.in-Ok-start.caller) p.jobs.items c.in-Ok-start.crew _ _ _ _ c.in-Ok-start.ensures.caller c.in-Ok-start.ensures.crew _ _ c.in-Ok.ensures)

pub returns-in-Ok-run_line-clause-work : goal.returns-in-Ok-run_line-clause-work
returns-in-Ok-run_line-clause-work g c =
    let net = c.args.checked.now in
    let p = c.in-Ok.prepared in
    let j = job g.N.Node.does (tree_of net.net) net.version c.args.limit c.args.keep in
    let s = streams g.I.Source.left g.I.Source.ended g.I.Source.faults g.O.Sink.taken c.args.source.now c.run_line.new.source c.args.sink.now c.run_line.new.sink in
    let worked = g.S.Refusals.worked c.run_line.new.spawner in
    subst (λ n. Told j s (λ xs. RoseBy (units (tree_of net.net) + length xs) n worked) c.in-Ok-run_line.ending) c.in-Ok-start.ensures.worked
    (c.in-Ok-run_line.ensures.work j (sym c.version.ensures)
    (HasFed-prepared g.N.Node.does (tree_of net.net) net.version c.args.limit c.args.keep c.plans_keep_laws.ensures _ _
    (caller_of p.caller) (caller_of c.in-Ok-start.caller) p.jobs.items c.in-Ok-start.crew _ _ _ _ c.in-Ok-start.ensures.caller c.in-Ok-start.ensures.crew _ _ c.in-Ok.ensures))

pub returns-in-Ok-run_line-clause-tasks : goal.returns-in-Ok-run_line-clause-tasks
returns-in-Ok-run_line-clause-tasks g c =
    let net = c.args.checked.now in
    let p = c.in-Ok.prepared in
    c.in-Ok-run_line.ensures.tasks (job g.N.Node.does (tree_of net.net) net.version c.args.limit c.args.keep) (sym c.version.ensures)
    (HasFed-prepared g.N.Node.does (tree_of net.net) net.version c.args.limit c.args.keep c.plans_keep_laws.ensures _ _
    (caller_of p.caller) (caller_of c.in-Ok-start.caller) p.jobs.items c.in-Ok-start.crew _ _ _ _ c.in-Ok-start.ensures.caller c.in-Ok-start.ensures.crew _ _ c.in-Ok.ensures)

pub returns-in-Ok-run_line-clause-starts : goal.returns-in-Ok-run_line-clause-starts
returns-in-Ok-run_line-clause-starts g c =
    let net = tree_of c.args.checked.now.net in
    let p = c.in-Ok.prepared in
    let old = g.S.Refusals.starts c.args.spawner.now in
    let now = g.S.Refusals.starts c.run_line.new.spawner in
    let number : length p.jobs.items ≡ units net =
    length-prepared g.N.Node.does net c.args.limit c.args.keep _ _ (caller_of p.caller) p.jobs.items _ _ _ _ _ _ c.in-Ok.ensures in
    subst (λ k. RoseBy k old now) number
    (subst (λ m. RoseBy (length p.jobs.items) old m) (sym (c.in-Ok-run_line.ensures.joins.starts_are ∙ c.in-Ok-start.ensures.starts)) (RoseBy-count_more old p.jobs.items))

pub returns-in-Ok-run_line-clause-rings : goal.returns-in-Ok-run_line-clause-rings
returns-in-Ok-run_line-clause-rings g c =
    record {
      jobs = c.in-Ok-start.crew;
      units_are = ap (map (λ job. job.unit)) c.in-Ok-start.ensures.crew ∙ c.in-Ok.ensures.units_are;
      rows_are = ap (map (λ job. job.row)) c.in-Ok-start.ensures.crew ∙ c.in-Ok.ensures.rows_are;
      sizes = subst (λ jobs. AreSized (plan_size (tree_of c.args.checked.now.net) c.args.cap) jobs) (sym c.in-Ok-start.ensures.crew) c.in-Ok.ensures.sizes;
    }

pub returns-in-Err-run_line-clause-run : goal.returns-in-Err-run_line-clause-run
returns-in-Err-run_line-clause-run g c =
    let net = c.args.checked.now in
    let p = c.in-Ok.prepared in
    c.in-Err-run_line.ensures.run (job g.N.Node.does (tree_of net.net) net.version c.args.limit c.args.keep) (sym c.version.ensures)
    (HasFed-prepared g.N.Node.does (tree_of net.net) net.version c.args.limit c.args.keep c.plans_keep_laws.ensures _ _
    (caller_of p.caller) (caller_of c.in-Ok-start.caller) p.jobs.items c.in-Ok-start.crew _ _ _ _ c.in-Ok-start.ensures.caller c.in-Ok-start.ensures.crew _ _ c.in-Ok.ensures)

pub returns-in-Err-clause-run : goal.returns-in-Err-clause-run
returns-in-Err-clause-run g c = rw c.into.ensures (NetRan-denied _ _ c.in-Err.denial refl refl refl)

pub start-requires-send-U : goal.start-requires-send-U
start-requires-send-U g c κs within = let u = IsSend-unit _ c.type_bounds.send-N in search (sendable, crosses) depth 20
