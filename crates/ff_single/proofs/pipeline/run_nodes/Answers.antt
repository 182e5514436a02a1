-- Nothing was done yet, or so few nodes ran.
use Rattle.std.proofs.Common.{refl}
use Rattle.std.proofs.lemmas.Result.{err_from_is_err_and}
use Rattle.ff_net.specs.Tree.{tree_of}
use Rattle.ff_stream.specs.Jobs.{job}
use Rattle.ff_stream.specs.Streams.{streams}
use Rattle.ff_stream.proofs.Endings.{IsCutShort-none}
use Rattle.ff_single.proofs.pipeline.run_nodes.Goals as goal

pub returns-in_err-groups-in_default-clause-run : goal.returns-in_err-groups-in_default-clause-run
returns-in_err-groups-in_default-clause-run g c =
    let p = err_from_is_err_and c.from_residual.result c.from_residual.ensures.1 in
    let j = job g.N.Node.does (tree_of c.args.checked.now.net) c.args.checked.now.version c.args.limit c.args.keep in
    let s = streams g.I.Source.left g.I.Source.ended g.I.Source.faults g.O.Sink.taken c.args.source.now c.args.source.now c.args.sink.now c.args.sink.now in
    rw (p.1, p.2) (IsCutShort-none j s refl refl)

pub returns-in-1-to-64-clause-run : goal.returns-in-1-to-64-clause-run
returns-in-1-to-64-clause-run g c = c.run_few.ensures.run c.args.limit
