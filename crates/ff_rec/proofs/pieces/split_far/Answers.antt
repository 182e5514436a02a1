-- `memchr` finds the first separator, and there the bytes are cut.
use Rattle.std.proofs.lemmas.List.{take_rest}
use Rattle.ff_rec.proofs.Cuts.{cut-Lacks, cut-place, Lacks-all, Lacks-take}
use Rattle.ff_rec.proofs.pieces.split_far.Goals as goal

pub returns-in-None-clause-pieces : goal.returns-in-None-clause-pieces
returns-in-None-clause-pieces c = cut-Lacks c.args.separator c.args.bytes.now (Lacks-all c.args.separator c.args.bytes.now c.in-None.ensures)

pub returns-in-None-clause-clean : goal.returns-in-None-clause-clean
returns-in-None-clause-clean c = Lacks-all c.args.separator c.args.bytes.now c.in-None.ensures

pub returns-in-Some-clause-pieces : goal.returns-in-Some-clause-pieces
returns-in-Some-clause-pieces c =
    rw take_rest (cut-place c.args.separator c.args.bytes.now c.in-Some.at c.in-Some.ensures.0 c.in-Some.ensures.1)

pub returns-in-Some-clause-clean : goal.returns-in-Some-clause-clean
returns-in-Some-clause-clean c = Lacks-take c.args.separator c.args.bytes.now c.in-Some.at c.in-Some.ensures.0.before
