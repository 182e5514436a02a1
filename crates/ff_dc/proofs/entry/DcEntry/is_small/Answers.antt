use Rattle.std.proofs.Common.{rules}
use Rattle.ff_dc.proofs.entry.DcEntry.is_small.Goals as goal

pub returns : goal.returns
returns g c = (c.args.self.now.cond_keeps c.args.part c.args.cut c.parts_are_spans.ensures (search rules)).1 c.cond.result c.cond.ensures.0
