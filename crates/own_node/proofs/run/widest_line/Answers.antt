use Rattle.std.proofs.Common.{◌+◌, List, length, false, subst}
use Rattle.std.specs.Prelude.{IfOk, OnOk}
use Rattle.ff_engine.specs.Runs.{NetRan}
use Rattle.ff_net.specs.Counts.{units}
use Rattle.ff_rec.specs.Lines.{Rec}
use Rattle.ff_spawn.specs.Counts.{RoseBy}
use Rattle.ff_stream.specs.Endings.{Told}
use Rattle.ff_stream.specs.Jobs.{job}
use Rattle.ff_stream.specs.Streams.{Streams, streams}
use Rattle.own_node.specs.Network.{own_net}
use Rattle.own_node.specs.Own.{own_node}
use Rattle.own_node.proofs.run.widest_line.Goals as goal

pub returns-clause-run : goal.returns-clause-run
returns-clause-run g c =
    let s : Streams = streams g.I.Source.left g.I.Source.ended g.I.Source.faults g.O.Sink.taken c.args.source.now c.run_net.new.source c.args.sink.now c.run_net.new.sink in
    subst (λ v. NetRan (job own_node own_net v 0 false) s c.run_net.result) c.requires.version
    (subst (λ t. NetRan (job own_node t c.args.checked.now.version 0 false) s c.run_net.result) c.requires.net c.run_net.ensures.run)

pub returns-clause-work : goal.returns-clause-work
returns-clause-work g c =
    let s : Streams = streams g.I.Source.left g.I.Source.ended g.I.Source.faults g.O.Sink.taken c.args.source.now c.run_net.new.source c.args.sink.now c.run_net.new.sink in
    let before = g.S.Refusals.worked c.args.spawner.now in
    let now = g.S.Refusals.worked c.run_net.new.spawner in
    subst (λ v. IfOk c.run_net.result (λ ending. Told (job own_node own_net v 0 false) s (λ (xs : List Rec). RoseBy (units own_net + length xs) before now) ending)) c.requires.version
    (subst (λ t. IfOk c.run_net.result (λ ending. Told (job own_node t c.args.checked.now.version 0 false) s (λ (xs : List Rec). RoseBy (units t + length xs) before now) ending)) c.requires.net c.run_net.ensures.work)

pub returns-clause-starts : goal.returns-clause-starts
returns-clause-starts g c = subst (λ t. OnOk c.run_net.result (RoseBy (units t) (g.S.Refusals.starts c.args.spawner.now) (g.S.Refusals.starts c.run_net.new.spawner))) c.requires.net c.run_net.ensures.starts
