use Rattle.std.proofs.Common.{◌∙◌, ap, arith, replicate, ◌∷◌, []}
use Rattle.ff_rec.specs.declared.msg.Msg.TheVariants.{Abort as AbortMsg}
use Rattle.ff_unit.proofs.UnitAborts.{Ran-aborted, none-outs}
use Rattle.ff_unit.proofs.unit.Unit.abort.Goals as goal

pub put_aborts-requires-clause-none : goal.put_aborts-requires-clause-none
put_aborts-requires-clause-none g c =
    (none-outs (g.P.Ports.puts c.args.ports.now) (g.Self.Unit.does.outs c.args.self.now) c.requires.puts).0

pub put_aborts-requires-clause-room : goal.put_aborts-requires-clause-room
put_aborts-requires-clause-room g c = λ k below.
    c.requires.room k (omega (arith, below, (none-outs (g.P.Ports.puts c.args.ports.now) (g.Self.Unit.does.outs c.args.self.now) c.requires.puts).1))

pub returns-clause-puts : goal.returns-clause-puts
returns-clause-puts g c =
    c.put_aborts.ensures.puts
    ∙ ap (λ n. replicate n (AbortMsg ∷ [])) (none-outs (g.P.Ports.puts c.args.ports.now) (g.Self.Unit.does.outs c.args.self.now) c.requires.puts).1

pub returns-clause-ran : goal.returns-clause-ran
returns-clause-ran g c =
    Ran-aborted g.Self.Unit.does g.met.Self.Unit.sound c.args.self.now c.end_aborted.new.self (g.P.Ports.gots c.args.ports.now) (g.P.Ports.puts c.args.ports.now)
    (g.P.Ports.gots c.put_aborts.new.ports) (g.P.Ports.puts c.put_aborts.new.ports) c.requires.made c.requires.fresh c.requires.gots c.put_aborts.ensures.gots
    (returns-clause-puts g c) c.end_aborted.ensures
