use Rattle.std.proofs.Common.{◌≡◌, ◌∷◌, ◌++◌, ap, ◌∙◌}
use Rattle.ff_rec.specs.Pieces.{whole_of}
use Rattle.ff_soak.proofs.Tallies.{records-next}
use Rattle.ff_soak.proofs.tally.next_line.Goals as goal

pub returns-in-Some-clause-records : goal.returns-in-Some-clause-records
returns-in-Some-clause-records c =
    let line = c.split.result.0.now in
    let whole : c.args.text.now ≡ line ++ 10 ∷ c.in-Some.behind.now = c.split.ensures.whole ∙ ap (whole_of 10 line) c.in-Some.is in
    records-next c.args.text.now line c.in-Some.behind.now whole c.split.ensures.clean
