use Rattle.ff_port.proofs.Rows.{map-set_told, OthersStay-set, PutsAt-set}
use Rattle.ff_port.proofs.own_ports.put_at.Goals as goal

pub returns-clause-link : goal.returns-clause-link
returns-clause-link g c =
    map-set_told g.O.Outbox.link c.args.outs.now.items c.args.k c.index_mut.result.now c.try_put.new.self c.index_mut.ensures.value c.try_put.ensures.link

pub returns-clause-puts : goal.returns-clause-puts
returns-clause-puts g c =
    PutsAt-set g.O.Outbox.put g.O.Outbox.grows g.O.Outbox.room c.args.outs.now.items c.args.k c.index_mut.result.now c.try_put.new.self c.args.m c.try_put.result c.requires.within c.index_mut.ensures.value c.try_put.ensures.puts

pub returns-clause-others : goal.returns-clause-others
returns-clause-others g c = OthersStay-set g.O.Outbox.room c.args.outs.now.items c.args.k c.try_put.new.self c.requires.within
