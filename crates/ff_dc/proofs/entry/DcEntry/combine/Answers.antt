use Rattle.ff_dc.proofs.entry.DcEntry.combine.Goals as goal

pub returns : goal.returns
returns g c = (c.args.self.now.combine_keeps c.args.left c.args.right c.fours_are_within.ensures c.fours_are_within-2.ensures).1 c.combine.result c.combine.ensures.0
