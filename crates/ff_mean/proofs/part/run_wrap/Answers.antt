-- One node means itself, and several mean their pipeline.
use Rattle.std.proofs.Common.{ap}
use Rattle.ff_node.specs.Behaviour.{node, node_rejected}
use Rattle.ff_node.specs.Comb.{comb_node}
use Rattle.ff_net.specs.Meaning.{mean, mean_rejected}
use Rattle.ff_net.specs.Tree.{tree_of}
use Rattle.ff_mean.specs.Gathering.{HasRunRounds}
use Rattle.ff_mean.proofs.PartSteps.{IfOk-map}
use Rattle.ff_mean.proofs.Workers.{comb_size, comb_class, HasRunRounds-comb, HasRunRounds-leaf}
use Rattle.ff_mean.proofs.part.run_wrap.Goals as goal

pub returns-in-Leaf : goal.returns-in-Leaf
returns-in-Leaf g c =
    let b = g.N.Node.does in
    let t = tree_of c.args.worker.now in
    let s = c.in_ok-copy.field-0 in
    let m = c.args.limit in
    let p = c.args.test.now in
    IfOk-map (λ answer. HasRunRounds (node b s) (node_rejected b s) p m c.args.input c.args.out.now c.run_rounds.new.out answer)
    (λ answer. HasRunRounds (mean b m t) (mean_rejected b m t) p m c.args.input c.args.out.now c.run_rounds.new.out answer)
    (λ answer ran. HasRunRounds-leaf b g.met.N.Node.keeps_kind t c.in-Leaf.node s m p c.args.input c.args.out.now c.run_rounds.new.out answer (ap tree_of c.in-Leaf.is) c.in_ok-copy.ensures ran)
    c.run_rounds.result c.run_rounds.ensures

pub new-comb-requires : goal.new-comb-requires
new-comb-requires g c =
    let size = comb_size g.N.Node.does g.met.N.Node.keeps_kind (tree_of c.args.worker.now) c.in_ok-nodes.field-0.items c.in_ok-nodes.ensures c.requires.plain c.requires.good in
    record { some = size.0; few = size.1 }

pub run_rounds-requires-2 : goal.run_rounds-requires-2
run_rounds-requires-2 g c = record {
  plain = comb_class g.N.Node.does g.met.N.Node.keeps_kind (tree_of c.args.worker.now) c.in_ok-nodes.field-0.items c.in_ok-nodes.ensures c.requires.plain c.requires.good
      c.new-comb.result c.new-comb.ensures;
  empty = c.requires.empty;
}

pub returns : goal.returns
returns g c =
    let b = g.N.Node.does in
    let t = tree_of c.args.worker.now in
    let ps = c.new-comb.result in
    let m = c.args.limit in
    let p = c.args.test.now in
    IfOk-map (λ answer. HasRunRounds (node (comb_node b) ps) (node_rejected (comb_node b) ps) p m c.args.input c.args.out.now c.run_rounds-2.new.out answer)
    (λ answer. HasRunRounds (mean b m t) (mean_rejected b m t) p m c.args.input c.args.out.now c.run_rounds-2.new.out answer)
    (λ answer ran. HasRunRounds-comb b g.met.N.Node.keeps_kind t c.in_ok-nodes.field-0.items c.in_ok-nodes.ensures c.requires.plain c.requires.good ps c.new-comb.ensures
    m p c.args.input c.args.out.now c.run_rounds-2.new.out answer ran)
    c.run_rounds-2.result c.run_rounds-2.ensures
