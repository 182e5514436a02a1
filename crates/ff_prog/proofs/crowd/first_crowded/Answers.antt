-- The names so far, and that they aren't too many.
use Rattle.std.proofs.Common.{◌≤◌, length, ◌∙◌, arith}
use Rattle.ff_prog.specs.Names.{is_crowded, names_until}
use Rattle.ff_prog.proofs.Crowds.{HasNames-next, roomy}
use Rattle.ff_prog.proofs.Firsts.{first-next}
use Rattle.ff_prog.proofs.crowd.first_crowded.Goals as goal

pub loop-k-preserved : goal.loop-k-preserved
loop-k-preserved c =
    let ss = c.args.statements.now in
    let k = c.loop-k.k in
    let keys = c.note_at.new.seen.keys in
    let seen = c.in_ok-note_at.ensures (names_until ss k) c.loop-k.invariant.seen in
    let few : length keys ≤ 1024 = omega arith in
    record {
      seen = HasNames-next ss k keys seen;
      same = c.loop-k.invariant.same ∙ first-next (is_crowded ss) k (length ss) c.loop-k-test.true (roomy ss k keys seen few);
    }
