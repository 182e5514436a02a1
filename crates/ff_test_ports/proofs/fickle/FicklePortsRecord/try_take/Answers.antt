-- A take at ports that tell nothing.
use Rattle.std.proofs.Common.{◌≡◌, refl, ap, ◌∙◌, subst}
use Rattle.ff_port.specs.Ends.{OthersStay, TakesAt}
use Rattle.ff_test_ports.specs.Fickle.{nothing_at}
use Rattle.ff_test_ports.proofs.Nothing.{nothing, OthersStay-nothing, TakesAt-nothing, nothing-takes}
use Rattle.ff_test_ports.proofs.fickle.FicklePortsRecord.try_take.Goals as goal

pub returns-then-refuses-clause-takes : goal.returns-then-refuses-clause-takes
returns-then-refuses-clause-takes g c = (
  ap g.P.Ports.gots c.refuses.ensures,
  nothing (g.P.Ports.gots c.args.self.now.ports) c.args.k,
  nothing (g.P.Ports.gots c.refuses.new.self.ports) c.args.k,
)

pub returns-clause-takes : goal.returns-clause-takes
returns-clause-takes g c =
    let before = ap g.P.Ports.gots c.refuses.ensures in
    subst (λ gots. TakesAt c.args.k gots (nothing_at gots) c.try_take.result (g.P.Ports.gots c.try_take.new.self) (nothing_at (g.P.Ports.gots c.try_take.new.self))) before
    (TakesAt-nothing c.args.k (g.P.Ports.gots c.refuses.new.self.ports) (g.P.Ports.gots c.try_take.new.self)
    (g.P.Ports.knowns c.refuses.new.self.ports) (g.P.Ports.knowns c.try_take.new.self) c.try_take.result c.try_take.ensures.takes)

pub returns-clause-others : goal.returns-clause-others
returns-clause-others g c =
    let before = ap g.P.Ports.gots c.refuses.ensures in
    OthersStay-nothing (g.P.Ports.gots c.args.self.now.ports) (g.P.Ports.gots c.try_take.new.self) c.args.k
    (nothing-takes c.args.k (g.P.Ports.gots c.refuses.new.self.ports) (g.P.Ports.gots c.try_take.new.self)
    (g.P.Ports.knowns c.refuses.new.self.ports) (g.P.Ports.knowns c.try_take.new.self) c.try_take.result c.try_take.ensures.takes ∙ ap nothing_at before)
