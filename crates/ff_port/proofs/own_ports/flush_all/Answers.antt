use Rattle.std.proofs.Common.{◌<◌, ◌∙◌, length, arith}
use Rattle.std.proofs.Math.Seq.{map-set_same}
use Rattle.ff_port.proofs.Rows.{all_flushed-more, all_flushed-less}
use Rattle.ff_port.proofs.own_ports.flush_all.Goals as goal
use Rattle.ff_port.proofs.own_ports.flush_all.Goals.{then-not-flush, else-not-flush}

pub loop-out-preserved : goal.loop-out-preserved
loop-out-preserved g c =
    let below : c.loop-out.out-index < length c.loop-out.out-items = omega arith in
    record {
      link = map-set_same g.O.Outbox.link c.loop-out.out-items c.loop-out.out-index c.flush.new.self c.out-item.result c.flush.ensures.link ∙ c.loop-out.invariant.link;
      puts = map-set_same g.O.Outbox.put c.loop-out.out-items c.loop-out.out-index c.flush.new.self c.out-item.result c.flush.ensures.puts ∙ c.loop-out.invariant.puts;
      flushed = elim c.if-not-flush.branch [ then-not-flush w ↦ all_flushed-less g.O.Outbox.waiting c.loop-out.out-items c.loop-out.out-index c.flush.new.self c.flush.result c.if-not-flush.all below w.if-not-flush.true c.flush.ensures.flushed w.all-is | else-not-flush w ↦ all_flushed-more g.O.Outbox.waiting c.loop-out.out-items c.loop-out.out-index c.flush.new.self c.flush.result c.loop-out.all c.if-not-flush.all below w.if-not-flush.false c.flush.ensures.flushed w.all-is c.loop-out.invariant.flushed ];
    }
