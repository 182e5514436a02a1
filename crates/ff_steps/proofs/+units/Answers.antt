-- A leaf and a comb are nodes, the parts of a good pipe are good, and copies are added one by one.
use Rattle.std.proofs.Common.{rules, sym, ap, ◌∙◌, subst, inl, inr}
use Rattle.ff_net.specs.Good.{Good, GoodParts}
use Rattle.ff_net.specs.RuleTests.{is_node}
use Rattle.ff_net.specs.Tree.{Tree, tree_of, trees_of, tree_of-Pipe, tree_of-Comb}
use Rattle.ff_net.specs.declared.net.Net.TheViews.{the_lemmas}
use Rattle.ff_steps.specs.PlanUnits.{units_in}
use Rattle.ff_steps.proofs.Times.{times-push}
use Rattle.ff_steps.proofs.+units.Goals as goal

pub units::add_units-add_parts-requires : goal.units::add_units-add_parts-requires
units::add_units-add_parts-requires g t c κs within =
    let piped = subst (λ (net : Tree g.row.N.Denot). Good g.N.Node.does net) (ap tree_of c.in-Pipe.is ∙ tree_of-Pipe c.in-Pipe.parts) c.requires in
    (search (rules, the_lemmas), (within, subst (λ parts. GoodParts g.N.Node.does (trees_of parts)) (sym c.deref.ensures.value) piped.1))

pub units::add_units-add_stage-requires-clause-node : goal.units::add_units-add_stage-requires-clause-node
units::add_units-add_stage-requires-clause-node g t c = elim c.in-Leaf.is [
  | inl leaf ↦ ap (λ net. is_node (tree_of net)) leaf.1
  | inr comb ↦ ap (λ net. is_node (tree_of net)) comb.1 ∙ ap is_node (tree_of-Comb comb.0)
]

pub copies::add_copies-loop-preserved : goal.copies::add_copies-loop-preserved
copies::add_copies-loop-preserved g t c =
    times-push c.args.units.now.items c.loop.counter (units_in g.N.Node.does c.args.making.limit c.args.making.keep (tree_of c.args.net.now)) c.loop.units.items c.add_units.new.units.items
    c.loop.invariant c.in_ok-add_units.ensures
