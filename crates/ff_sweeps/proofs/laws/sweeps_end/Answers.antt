-- A checked network is good, and one that sweeps has no choice.
use Rattle.std.proofs.Common.{[]}
use Rattle.std.proofs.lemmas.Bool.{not-true}
use Rattle.ff_net.proofs.GoodNets.{good}
use Rattle.ff_net.proofs.Kept.{kept_whole}
use Rattle.ff_net.specs.Places.{whole}
use Rattle.ff_net.specs.Tree.{tree_of}
use Rattle.ff_steps.specs.NetUnitLaws.{IsUnit-nodes}
use Rattle.ff_sweeps.proofs.Opened.{each_sweep_moves, never_stuck}
use Rattle.ff_sweeps.proofs.laws.sweeps_end.Goals as goal

pub returns-clause-moves : goal.returns-clause-moves
returns-clause-moves g c =
    let b = g.N.Node.does in
    let keeps = g.met.N.Node.keeps_kind in
    let law = g.met.N.Node.class_law in
    let t = tree_of c.args.checked.now.net in
    let is_good = good b c.args.checked.now.version whole [] t (kept_whole b c.args.checked.now.version t c.args.checked.now.kept) in
    λ m keep. each_sweep_moves b keeps law (IsUnit-nodes b keeps law) m keep t is_good (not-true _ c.requires)

pub returns-clause-ends : goal.returns-clause-ends
returns-clause-ends g c =
    let b = g.N.Node.does in
    let keeps = g.met.N.Node.keeps_kind in
    let law = g.met.N.Node.class_law in
    let t = tree_of c.args.checked.now.net in
    let is_good = good b c.args.checked.now.version whole [] t (kept_whole b c.args.checked.now.version t c.args.checked.now.kept) in
    λ m keep. never_stuck b keeps law (IsUnit-nodes b keeps law) m keep t is_good (not-true _ c.requires)
