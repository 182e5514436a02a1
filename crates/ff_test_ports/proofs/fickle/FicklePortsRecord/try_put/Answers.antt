-- A put at ports that tell nothing.
use Rattle.std.proofs.Common.{◌≡◌, true, refl, ap, ◌∙◌, subst}
use Rattle.ff_port.specs.Ends.{OthersStay, PutsAt}
use Rattle.ff_test_ports.specs.Fickle.{nothing_at}
use Rattle.ff_test_ports.proofs.Nothing.{nothing, OthersStay-nothing, PutsAt-nothing, nothing-puts}
use Rattle.ff_test_ports.proofs.fickle.FicklePortsRecord.try_put.Goals as goal

-- what it was handed comes back
pub returns-then-refuses-clause-puts : goal.returns-then-refuses-clause-puts
returns-then-refuses-clause-puts g c = (
  refl,
  ap g.P.Ports.puts c.refuses.ensures,
  nothing (g.P.Ports.puts c.args.self.now.ports) c.args.k,
  nothing (g.P.Ports.puts c.refuses.new.self.ports) c.args.k,
)

pub returns-clause-puts : goal.returns-clause-puts
returns-clause-puts g c =
    let before = ap g.P.Ports.puts c.refuses.ensures in
    subst (λ puts. PutsAt true c.args.k puts (nothing_at puts) c.args.m c.try_put.result (g.P.Ports.puts c.try_put.new.self) (nothing_at (g.P.Ports.puts c.try_put.new.self))) before
    (PutsAt-nothing g.P.Ports.grows c.args.k (g.P.Ports.puts c.refuses.new.self.ports) (g.P.Ports.puts c.try_put.new.self)
    (g.P.Ports.rooms c.refuses.new.self.ports) (g.P.Ports.rooms c.try_put.new.self) c.args.m c.try_put.result c.try_put.ensures.puts)

pub returns-clause-others : goal.returns-clause-others
returns-clause-others g c =
    let before = ap g.P.Ports.puts c.refuses.ensures in
    OthersStay-nothing (g.P.Ports.puts c.args.self.now.ports) (g.P.Ports.puts c.try_put.new.self) c.args.k
    (nothing-puts g.P.Ports.grows c.args.k (g.P.Ports.puts c.refuses.new.self.ports) (g.P.Ports.puts c.try_put.new.self)
    (g.P.Ports.rooms c.refuses.new.self.ports) (g.P.Ports.rooms c.try_put.new.self) c.args.m c.try_put.result c.try_put.ensures.puts ∙ ap nothing_at before)
