use Rattle.ff_unit.proofs.UnitRuns.{Ran-hands, opening-hands}
use Rattle.ff_unit.proofs.unit.Unit.take_reject.Goals as goal

pub returns-clause-start : goal.returns-clause-start
returns-clause-start g c =
    opening-hands g.Self.Unit.does g.met.Self.Unit.sound c.args.self.now c.take_kept.result c.take_kept.new.self c.take_kept.ensures

pub returns-clause-ran : goal.returns-clause-ran
returns-clause-ran g c = λ gots puts ran.
    Ran-hands g.Self.Unit.does g.met.Self.Unit.sound c.args.self.now gots puts c.take_kept.result c.take_kept.new.self ran c.take_kept.ensures
