use Rattle.ff_port.proofs.Rows.{map-set_told, OthersStay-set, TakesAt-set, count_of-set}
use Rattle.ff_port.proofs.own_ports.take_at.Goals as goal

pub returns-clause-link : goal.returns-clause-link
returns-clause-link g c =
    map-set_told g.I.Inbox.link c.args.ins.now.items c.args.k c.index_mut.result.now c.try_take.new.self c.index_mut.ensures.value c.try_take.ensures.link

pub returns-clause-takes : goal.returns-clause-takes
returns-clause-takes g c =
    TakesAt-set g.I.Inbox.got g.I.Inbox.known c.args.ins.now.items c.args.k c.index_mut.result.now c.try_take.new.self c.try_take.result c.requires c.index_mut.ensures.value c.try_take.ensures.takes

pub returns-clause-others : goal.returns-clause-others
returns-clause-others g c = OthersStay-set g.I.Inbox.known c.args.ins.now.items c.args.k c.try_take.new.self c.requires

pub returns-clause-counted : goal.returns-clause-counted
returns-clause-counted g c =
    count_of-set g.I.Inbox.got g.I.Inbox.known c.args.ins.now.items c.args.k c.index_mut.result.now c.try_take.new.self c.try_take.result c.requires c.index_mut.ensures.value c.try_take.ensures.takes
