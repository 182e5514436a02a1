-- A take at ports that tell nothing.
use Rattle.std.proofs.Common.{refl}
use Rattle.ff_test_ports.proofs.Nothing.{nothing, nothing-set, OthersStay-nothing}
use Rattle.ff_loop_tests.proofs.tests.players.PlayersPortsRecord.try_take.Goals as goal

pub returns-in-None-clause-takes : goal.returns-in-None-clause-takes
returns-in-None-clause-takes c =
    let gots = c.args.self.now.got.items in (refl, nothing gots c.args.k, nothing gots c.args.k)

pub returns-in-None-clause-others : goal.returns-in-None-clause-others
returns-in-None-clause-others c =
    let gots = c.args.self.now.got.items in OthersStay-nothing gots gots c.args.k refl

pub returns-in-Some-clause-others : goal.returns-in-Some-clause-others
returns-in-Some-clause-others c =
    let gots = c.args.self.now.got.items in OthersStay-nothing gots _ c.args.k (nothing-set gots c.args.k c.note.new.self)
