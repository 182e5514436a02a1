-- What was written begins an answer, as it did before.
use Rattle.ff_stream.proofs.Flowings.{IsOpen-flows}
use Rattle.ff_stream.proofs.flow.FlowWork.give_up.Goals as goal

pub returns-clause-stood : goal.returns-clause-stood
returns-clause-stood g c = λ j xs front at. IsOpen-flows g.M.Node.does j c.args.self xs front at

pub returns-clause-broke : goal.returns-clause-broke
returns-clause-broke g c = λ j halt xs front opened. opened
