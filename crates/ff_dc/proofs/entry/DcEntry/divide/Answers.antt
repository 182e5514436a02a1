use Rattle.ff_dc.proofs.entry.DcEntry.divide.Goals as goal

pub returns : goal.returns
returns g c = (c.args.self.now.divide_keeps c.args.part c.parts_are_spans.ensures).1 c.divide.result c.divide.ensures.0
