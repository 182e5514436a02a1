use Rattle.std.proofs.Common.{◌∙◌, set}
use Rattle.std.proofs.Math.Seq.{map-set_same}
use Rattle.ff_port.proofs.Rows.{count_of-same}
use Rattle.ff_port.proofs.own_ports.tell_all.Goals as goal

pub loop-inn-preserved : goal.loop-inn-preserved
loop-inn-preserved g c =
    let l = c.loop-inn in
    let same = map-set_same g.I.Inbox.got l.inn-items l.inn-index c.tell.new.self c.inn-item.result c.tell.ensures.got in
    record {
      link = map-set_same g.I.Inbox.link l.inn-items l.inn-index c.tell.new.self c.inn-item.result c.tell.ensures.link ∙ l.invariant.link;
      gots = same ∙ l.invariant.gots;
      knowns = map-set_same g.I.Inbox.known l.inn-items l.inn-index c.tell.new.self c.inn-item.result c.tell.ensures.known ∙ l.invariant.knowns;
      counted = count_of-same g.I.Inbox.got l.inn-items (set l.inn-items l.inn-index c.tell.new.self) same ∙ l.invariant.counted;
    }
