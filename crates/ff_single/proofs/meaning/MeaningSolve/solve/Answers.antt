-- What the network means.
use Rattle.ff_net.specs.Tree.{tree_of}
use Rattle.ff_stream.specs.Jobs.{job}
use Rattle.ff_single.proofs.Wholes.{Solved-meant}
use Rattle.ff_single.proofs.meaning.MeaningSolve.solve.Goals as goal
