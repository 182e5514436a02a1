-- A statement that is no bad `out` is passed over.
use Rattle.std.proofs.Common.{sym, ◌∙◌, length}
use Rattle.ff_prog.specs.Rules.{breaks_out}
use Rattle.ff_prog.proofs.Firsts.{first-next}
use Rattle.ff_prog.proofs.rules.first_bad_out.Goals as goal

pub loop-k-preserved : goal.loop-k-preserved
loop-k-preserved c =
    let misses = sym c.is_bad_out.ensures ∙ c.if-is_bad_out.false in
    c.loop-k.invariant
    ∙ first-next (breaks_out c.args.statements.now) c.loop-k.k (length c.args.statements.now) c.loop-k-test.true misses
