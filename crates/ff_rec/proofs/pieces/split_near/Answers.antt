-- The first bytes lack the separator: it is the next one, or the rest is cut.
use Rattle.std.proofs.Common.{◌≡◌, ◌+◌, drop, sym, ap, ◌∙◌}
use Rattle.std.proofs.lemmas.List.{take_rest}
use Rattle.ff_rec.specs.Lines.{cut}
use Rattle.ff_rec.specs.Pieces.{whole_of}
use Rattle.ff_rec.proofs.Cuts.{cut-split, take-byte-drop}
use Rattle.ff_rec.proofs.Nears.{cut-whole_of, whole_of-all, Lacks-front}
use Rattle.ff_rec.proofs.pieces.split_near.Goals as goal

pub returns-then-bytes-near-clause-pieces : goal.returns-then-bytes-near-clause-pieces
returns-then-bytes-near-clause-pieces c =
    let bytes = c.args.bytes.now in
    let near = c.lacking-near.result in
    rw take_rest (ap (cut c.args.separator) (sym (take-byte-drop bytes near c.args.separator c.if-near-bytes.true c.if-bytes-near.true)) ∙ cut-split c.args.separator _ (drop (near + 1) bytes) c.lacking-near.ensures.clean)

pub returns-clause-pieces : goal.returns-clause-pieces
returns-clause-pieces c =
    let sep = c.args.separator in
    let bytes = c.args.bytes.now in
    let near = c.lacking-near.result in
    let rest : drop near bytes ≡ whole_of sep c.split_far.result.0.now c.split_far.result.1 = sym (take_rest bytes near) ∙ c.split_far.ensures.whole in
    let clean = Lacks-front sep bytes near c.split_far.result.0.now c.split_far.result.1 c.lacking-near.ensures.within rest c.lacking-near.ensures.clean c.split_far.ensures.clean in
    ap (cut sep) (whole_of-all sep bytes near c.split_far.result.0.now c.split_far.result.1 c.lacking-near.ensures.within rest) ∙ cut-whole_of sep _ c.split_far.result.1 clean

pub returns-clause-whole : goal.returns-clause-whole
returns-clause-whole c =
    let bytes = c.args.bytes.now in
    let near = c.lacking-near.result in
    whole_of-all c.args.separator bytes near c.split_far.result.0.now c.split_far.result.1 c.lacking-near.ensures.within (sym (take_rest bytes near) ∙ c.split_far.ensures.whole)

pub returns-clause-clean : goal.returns-clause-clean
returns-clause-clean c =
    let bytes = c.args.bytes.now in
    let near = c.lacking-near.result in
    Lacks-front c.args.separator bytes near c.split_far.result.0.now c.split_far.result.1 c.lacking-near.ensures.within (sym (take_rest bytes near) ∙ c.split_far.ensures.whole) c.lacking-near.ensures.clean c.split_far.ensures.clean
