-- Nothing was read yet.
use Rattle.std.proofs.Common.{refl, sym}
use Rattle.ff_single.proofs.whole.run_solved.Goals as goal

pub returns-clause-run : goal.returns-clause-run
returns-clause-run g c = c.run_work.ensures.run (g.W.Solve.runs c.args.way) (sym c.requires) (record { runs = refl; given = c.new.ensures; nothing = refl })
