-- A master is idle exactly where its log is done.
use Rattle.std.proofs.Common.{[], length, get_or, sym, ap, subst, arith, length-append}
use Rattle.std.specs.List.{concat}
use Rattle.ff_rec.specs.Weights.{Same, weigh}
use Rattle.ff_rec.proofs.WeightLaws.{weigh-append, weigh-one}
use Rattle.ff_loop.specs.Events.{given, backs, IsIdle}
use Rattle.ff_loop.specs.Scheduling.{Scheduling, IsScheduling, made_by}
use Rattle.ff_loop.specs.Moves.{numbers_from, IsDone}
use Rattle.ff_loop.specs.Masters.{MasterState, IsKept}
use Rattle.ff_loop.proofs.Queues.{concat-at, concat-empty}
use Rattle.ff_loop.proofs.MasterCounts.{numbers_to-length, numbers_from-length}
use Rattle.ff_loop.proofs.MasterSteps.{held-length}

module _ {T A S : Type 0} (d : Scheduling T A S) where
  -- an idle scheduler has nothing more to do
  pub IsDone-idle : (m : MasterState T A S) → IsScheduling d → IsKept d m → IsIdle (made_by d m.scheduler) (d.events m.scheduler)
      → IsDone (length m.held) (d.made (d.kind m.start)) (d.events m.start) m.log
  IsDone-idle m sound kept idle = record {
    all_given = subst (λ e. Same (given e) (d.made (d.kind m.start) e)) kept.events
        (subst (λ k. Same (given (d.events m.scheduler)) (d.made k (d.events m.scheduler))) kept.kind
        (record { by = λ h. omega (arith, (sound.keeps_given m.scheduler kept.right).by h, idle.0.by h) }));
    all_got = λ j under. omega (
      arith,
      idle.1.by (λ _. 1),
      kept.balance.by (λ _. 1),
      weigh-append (λ _. 1) (backs (d.events m.scheduler)) (concat m.held),
      concat-at (λ _. 1) m.held j under,
      weigh-one (get_or m.held j []),
      ap length (kept.queues j under),
      length-append (numbers_from j m.log) (get_or m.held j []),
      numbers_to-length j m.log,
      numbers_from-length j m.log,
    );
  }

  -- and one that did all is idle
  pub IsIdle-done : (m : MasterState T A S) → IsKept d m → IsDone (length m.held) (d.made (d.kind m.start)) (d.events m.start) m.log
      → IsIdle (made_by d m.scheduler) (d.events m.scheduler)
  IsIdle-done m kept done = (
    record {
      by = λ h. omega (
        arith,
        (subst (λ k. Same (given (d.events m.scheduler)) (d.made k (d.events m.scheduler))) (sym kept.kind)
            (subst (λ e. Same (given e) (d.made (d.kind m.start) e)) (sym kept.events) done.all_given)).by h,
      );
    },
    record {
      by = λ h. omega (
        arith,
        kept.balance.by h,
        weigh-append h (backs (d.events m.scheduler)) (concat m.held),
        ap (weigh h) (concat-empty m.held (λ j under. omega (arith, held-length d m j kept under, done.all_got j under))),
      );
    },
  )
