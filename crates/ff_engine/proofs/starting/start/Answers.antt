-- The jobs that weren't started are some of those that made no step.
use Rattle.std.proofs.Common.{sym, subst}
use Rattle.std.specs.List.{All}
use Rattle.ff_engine.specs.Jobs.{IsFresh}
use Rattle.ff_engine.proofs.SlotLaws.{All-front}
use Rattle.ff_engine.proofs.starting.start.Goals as goal

pub break_up-requires-clause-fresh : goal.break_up-requires-clause-fresh
break_up-requires-clause-fresh g c κs within =
    All-front (λ j. IsFresh g.U.Unit.does j) c.start_all.new.jobs.items c.start_all.new.self.jobs
    (subst (λ js. All (λ j. IsFresh g.U.Unit.does j) js) (sym c.start_all.ensures.conserved) c.requires.fresh)
