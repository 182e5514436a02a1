-- The first place among the first bytes is the first of all, and there the bytes are cut.
use Rattle.std.proofs.lemmas.List.{take_rest}
use Rattle.ff_rec.proofs.Cuts.{cut-place, Lacks-take}
use Rattle.ff_rec.proofs.Masks.{NoneBefore-more}
use Rattle.ff_rec.proofs.pieces.split.Goals as goal

pub returns-clause-pieces : goal.returns-clause-pieces
returns-clause-pieces c =
    let bytes = c.args.bytes.now in
    rw take_rest (cut-place c.args.separator bytes c.in-Some.at (NoneBefore-more c.args.separator bytes 32 c.in-Some.at c.if-bytes-ge-NEAR.true c.in-Some.ensures.0) c.in-Some.ensures.1)

pub returns-clause-clean : goal.returns-clause-clean
returns-clause-clean c = Lacks-take c.args.separator c.args.bytes.now c.in-Some.at c.in-Some.ensures.0.before
