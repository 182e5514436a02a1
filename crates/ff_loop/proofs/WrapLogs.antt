-- What the log of a wrap's master says without the numbers of its tasks.
use Rattle.std.proofs.Common.{◌≡◌, ℕ, ◌==◌, nat_le, not, if◌then◌else◌, List, [], ◌∷◌, ◌++◌, length, refl, sym, ap, subst, ◌∙◌, arith, length-append}
use Rattle.std.specs.List.{filter}
use Rattle.ff_rec.specs.Lines.{Rec}
use Rattle.ff_rec.specs.Weights.{Same}
use Rattle.ff_node.specs.Sends.{Sent}
use Rattle.ff_net.specs.declared.net.Test.{Test}
use Rattle.ff_net.specs.Levels.{meets}
use Rattle.ff_net.specs.Logs.{Event, Within}
use Rattle.ff_net.specs.Logs as nets
use Rattle.ff_loop.specs.Events.{given}
use Rattle.ff_loop.specs.Moves.{Move, Fed, Gave, Got, events_on, asked, answered, IsLegal, IsDone}
use Rattle.ff_loop.specs.Worklists.{came, came_out, work_made}
use Rattle.ff_loop.specs.Rounds.{wrap_log}
use Rattle.ff_loop.proofs.MasterCounts.{length-if}

-- the tasks that were given, and those that came; the results
pub given-wrap : (log : List (Move Rec Sent)) → given (events_on [] log) ≡ nets.given (wrap_log log)
given-wrap [] = refl
given-wrap (Fed t ∷ log) = given-wrap log
given-wrap (Gave w id t ∷ log) = ap (λ l. l ++ t ∷ []) (given-wrap log)
given-wrap (Got w id a ∷ log) = given-wrap log

pub came-wrap : (p : Test) (log : List (Move Rec Sent)) → came p (events_on [] log) ≡ nets.came p (wrap_log log)
came-wrap p [] = refl
came-wrap p (Fed t ∷ log) = ap (λ l. l ++ t ∷ []) (came-wrap p log)
came-wrap p (Gave w id t ∷ log) = came-wrap p log
came-wrap p (Got w id a ∷ log) = ap (λ l. l ++ filter (meets p) a.sends) (came-wrap p log)

pub came_out-wrap : (p : Test) (log : List (Move Rec Sent)) → came_out p (events_on [] log) ≡ nets.came_out p (wrap_log log)
came_out-wrap p [] = refl
came_out-wrap p (Fed t ∷ log) = came_out-wrap p log
came_out-wrap p (Gave w id t ∷ log) = came_out-wrap p log
came_out-wrap p (Got w id a ∷ log) = ap (λ l. l ++ filter (λ r. not (meets p r)) a.sends) (came_out-wrap p log)

-- the tasks that may be given
pub made-wrap : (p : Test) (m : ℕ) (log : List (Move Rec Sent)) → work_made p m (events_on [] log) ≡ nets.made m p (wrap_log log)
made-wrap p m log =
    ap (λ c. if nat_le (length c) m then c else given (events_on [] log)) (came-wrap p log)
    ∙ ap (λ g. if nat_le (length (nets.came p (wrap_log log))) m then nets.came p (wrap_log log) else g) (given-wrap log)

-- as many tasks for a worker, and as many answers
pub asked-length : (j : ℕ) (log : List (Move Rec Sent)) → length (asked j log) ≡ length (nets.given_to j (wrap_log log))
asked-length j [] = refl
asked-length j (Fed t ∷ log) = asked-length j log
asked-length j (Gave w id t ∷ log) = omega (
  arith,
  asked-length j log,
  length-append (asked j log) (if w == j then t ∷ [] else []),
  length-append (nets.given_to j (wrap_log log)) (if w == j then t ∷ [] else []),
)
asked-length j (Got w id a ∷ log) = asked-length j log

pub answered-length : (j : ℕ) (log : List (Move Rec Sent)) → length (answered j log) ≡ length (nets.got_from j (wrap_log log))
answered-length j [] = refl
answered-length j (Fed t ∷ log) = answered-length j log
answered-length j (Gave w id t ∷ log) = answered-length j log
answered-length j (Got w id a ∷ log) = omega (
  arith,
  answered-length j log,
  length-append (answered j log) (if w == j then a ∷ [] else []),
  length-append (nets.got_from j (wrap_log log)) (if w == j then a.sends ∷ [] else []),
  length-if a a.sends (w == j),
)

module _ (n m : ℕ) (p : Test) where
  -- it is legal where the log with its numbers is
  pub IsLegal-wrap : (log : List (Move Rec Sent)) → IsLegal n (work_made p m) [] log → nets.IsLegal n m p (wrap_log log)
  IsLegal-wrap [] legal = tt
  IsLegal-wrap (Fed t ∷ log) legal = IsLegal-wrap log legal
  IsLegal-wrap (Gave w id t ∷ log) legal = (
    legal.0,
    subst (λ g. Within (t ∷ g) (nets.made m p (wrap_log log))) (given-wrap log)
        (subst (Within (t ∷ given (events_on [] log))) (made-wrap p m log) legal.1),
    IsLegal-wrap log legal.2,
  )
  IsLegal-wrap (Got w id a ∷ log) legal =
      (legal.0, omega (arith, legal.1, asked-length w log, answered-length w log), IsLegal-wrap log legal.2)

  -- and done where that is
  pub IsDone-wrap : (log : List (Move Rec Sent)) → IsDone n (work_made p m) [] log → nets.IsDone n m p (wrap_log log)
  IsDone-wrap log done = record {
    all_given = subst (λ g. Same g (nets.made m p (wrap_log log))) (given-wrap log)
        (subst (Same (given (events_on [] log))) (made-wrap p m log) done.all_given);
    all_got = λ w under. omega (arith, done.all_got w under, asked-length w log, answered-length w log);
  }

  pub IsDone-unwrap : (log : List (Move Rec Sent)) → nets.IsDone n m p (wrap_log log) → IsDone n (work_made p m) [] log
  IsDone-unwrap log done = record {
    all_given = subst (Same (given (events_on [] log))) (sym (made-wrap p m log))
        (subst (λ g. Same g (nets.made m p (wrap_log log))) (sym (given-wrap log)) done.all_given);
    all_got = λ w under. omega (arith, done.all_got w under, asked-length w log, answered-length w log);
  }
