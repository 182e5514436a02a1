use Rattle.std.proofs.Common.{[]}
use Rattle.ff_net.specs.Tree.{tree_of}
use Rattle.ff_net.specs.Places.{whole}
use Rattle.ff_net.proofs.GoodNets.{good, is_within}
use Rattle.ff_net.proofs.KeptWraps.{wraps_on_top}
use Rattle.ff_net.proofs.Kept.{kept_whole}
use Rattle.ff_net.proofs.laws.checked_networks_are_good.Goals as goal

pub returns : goal.returns
returns g c =
    let b = g.N.Node.does in
    let v = c.args.checked.now.version in
    let t = tree_of c.args.checked.now.net in
    let kept = kept_whole b v t c.args.checked.now.kept in
    record { good = good b v whole [] t kept; wraps = wraps_on_top b v t kept; limits = is_within b v t kept }
