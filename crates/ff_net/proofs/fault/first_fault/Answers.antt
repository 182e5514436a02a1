use Rattle.std.proofs.Common.{◌∙◌, sym}
use Rattle.ff_net.specs.Tree.{tree_of}
use Rattle.ff_net.proofs.FirstFault.{shallow_whole}
use Rattle.ff_net.proofs.fault.first_fault.Goals as goal

pub fault_among-requires : goal.fault_among-requires
fault_among-requires g c =
    shallow_whole g.N.Node.does c.args.version (tree_of c.args.net.now) (sym c.first_place.ensures ∙ c.in_default.is)
