-- A node that was opened did nothing yet.
use Rattle.ff_stream.proofs.Flowings.{Flows-opened}
use Rattle.ff_stream.proofs.stream.run_stream.Goals as goal

pub returns-clause-run : goal.returns-clause-run
returns-clause-run g c =
    λ j version keep stands. c.run_work.ensures.run j version (Flows-opened g.M.Node.does j c.args.node c.args.keep c.open-flow.result keep stands c.open-flow.ensures)
