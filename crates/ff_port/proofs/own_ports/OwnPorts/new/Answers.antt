use Rattle.std.proofs.Common.{min, sym, ap}
use Rattle.ff_port.proofs.Rows.{count_of-empty}
use Rattle.ff_port.proofs.own_ports.OwnPorts.new.Goals as goal

pub invariant_of-result : goal.invariant_of-result
invariant_of-result g c =
    record { counted = ap (λ n. min n 18446744073709551615) (sym (count_of-empty g.I.Inbox.got c.args.ins.items c.requires)) }
