-- So few bytes hold few tabs.
use Rattle.std.proofs.Common.{◌≤◌, take, arith, length-take}
use Rattle.std.proofs.lemmas.Result.{on_ok_weaker}
use Rattle.ff_rec.specs.Lines.{tabs}
use Rattle.ff_rec.proofs.TabCounts.{tabs-le-length}
use Rattle.ff_rec.proofs.line_reader.line.push_line.Goals as goal

pub returns-then-text-ge-NEAR-clause-few : goal.returns-then-text-ge-NEAR-clause-few
returns-then-text-ge-NEAR-clause-few c =
    let line = take c.args.len c.args.text.now in
    let few : tabs line ≤ 63 = omega (arith, tabs-le-length line, length-take c.args.len c.args.text.now, c.if-len-le-SHORT.true) in
    on_ok_weaker c.push.result (λ _. few) c.push.ensures.ok
