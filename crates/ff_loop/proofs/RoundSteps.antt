-- What the tasks of a wrap are by their log.
use Rattle.std.proofs.Common.{◌≡◌, ℕ, ◌+◌, ◌<◌, ◌≤◌, ◌↔◌, Bool, true, false, IsTrue, [], ◌∷◌, ◌++◌, Option, None, Some, length, sym, ap, subst, ◌∙◌, arith}
use Rattle.std.proofs.lemmas.List.{length-replicate}
use Rattle.ff_rec.specs.Lines.{Rec}
use Rattle.ff_node.specs.Sends.{Sent}
use Rattle.ff_net.specs.declared.net.Test.{Test}
use Rattle.ff_net.specs.Logs.{Event, Within}
use Rattle.ff_net.specs.Logs as nets
use Rattle.ff_loop.specs.Events.{given, NoneReady}
use Rattle.ff_loop.specs.Scheduling.{made_by}
use Rattle.ff_loop.specs.Moves.{Move, Gave, events_on, asked, answered, IsLegal, IsDone}
use Rattle.ff_loop.specs.Masters.{opened_master, IsKept, Moves, Rests, Gives}
use Rattle.ff_loop.specs.Worklists.{WorkState, came, came_out, work_made, IsOverLimit, Holds, TakesHeld, opened_work, work_does}
use Rattle.ff_loop.specs.WorkLaws.{IsScheduling-work}
use Rattle.ff_loop.specs.Rounds.{RoundState, wrap_log, test_of, limit_of, workers_of, log_of, taken_of, results_of, IsRound, IsLogged, GoesRound, IsOpened, GivesTask, TakesOut}
use Rattle.ff_loop.proofs.WrapLogs.{given-wrap, came-wrap, came_out-wrap, made-wrap, asked-length, answered-length, IsLegal-wrap, IsDone-wrap, IsDone-unwrap}

-- with other tasks
abbrev over_work : RoundState → WorkState → RoundState
over_work s w = record s { scheduler = w }

module _ (s : RoundState) (round : IsRound s) where
  test-is : s.scheduler.test ≡ test_of s
  test-is = ap (λ (k : Test × ℕ). k.0) round.kept.kind

  limit-is : s.scheduler.limit ≡ limit_of s
  limit-is = ap (λ (k : Test × ℕ). k.1) round.kept.kind

  events-are : s.scheduler.events ≡ events_on [] s.log
  events-are = round.kept.events ∙ ap (λ e. events_on e s.log) round.none_before

  given-is : given s.scheduler.events ≡ nets.given (log_of s)
  given-is = ap given events-are ∙ given-wrap s.log

  came-is : came s.scheduler.test s.scheduler.events ≡ nets.came (test_of s) (log_of s)
  came-is = ap (λ p. came p s.scheduler.events) test-is ∙ ap (came (test_of s)) events-are ∙ came-wrap (test_of s) s.log

  came_out-is : came_out s.scheduler.test s.scheduler.events ≡ nets.came_out (test_of s) (log_of s)
  came_out-is = ap (λ p. came_out p s.scheduler.events) test-is ∙ ap (came_out (test_of s)) events-are ∙ came_out-wrap (test_of s) s.log

  made-is : made_by work_does s.scheduler ≡ nets.made (limit_of s) (test_of s) (log_of s)
  made-is = ap (λ (k : Test × ℕ). work_made k.0 k.1 s.scheduler.events) round.kept.kind
      ∙ ap (work_made (test_of s) (limit_of s)) events-are
      ∙ made-wrap (test_of s) (limit_of s) s.log

  results-within : (b : Bool) → Holds b s.scheduler → length (nets.came (test_of s) (log_of s)) ≤ limit_of s
      → taken_of s ++ results_of s ≡ nets.came_out (test_of s) (log_of s)
  results-within false within few = within.results ∙ came_out-is
  results-within true past few = absurd (omega (arith, past.over, few, limit-is, ap length came-is))

  results-past : (b : Bool) → Holds b s.scheduler → limit_of s < length (nets.came (test_of s) (log_of s)) → results_of s ≡ []
  results-past false within many = absurd (omega (arith, within.room, many, limit-is, ap length came-is))
  results-past true past many = past.results

  pub IsLogged-round : IsLogged s
  IsLogged-round = record {
    legal = IsLegal-wrap (workers_of s) (limit_of s) (test_of s) s.log
        (subst (λ e. IsLegal (workers_of s) (work_made (test_of s) (limit_of s)) e s.log) round.none_before round.kept.legal);
    given_came = subst (λ xs. Within xs (nets.made (limit_of s) (test_of s) (log_of s))) given-is
        (subst (Within (given s.scheduler.events)) made-is (IsScheduling-work.keeps_given s.scheduler round.kept.right));
    results = results-within s.scheduler.over round.kept.right.holds;
    dropped = results-past s.scheduler.over round.kept.right.holds;
  }

  -- past the limit, by the log
  pub IsOverLimit-round : (answer : Bool) → IsTrue answer ↔ IsOverLimit s.scheduler → IsTrue answer ↔ nets.IsOverLimit (limit_of s) (test_of s) (log_of s)
  IsOverLimit-round answer tells = (
    λ says. omega (arith, tells.0 says, limit-is, ap length came-is),
    λ over. tells.1 (omega (arith, over, limit-is, ap length came-is)),
  )

  -- done, by the log
  pub IsDone-round : (answer : Bool)
      → IsTrue answer ↔ IsDone (workers_of s) (work_made (test_of s) (limit_of s)) s.start.events s.log
      → IsTrue answer ↔ nets.IsDone (workers_of s) (limit_of s) (test_of s) (log_of s)
  IsDone-round answer tells = (
    λ says. IsDone-wrap (workers_of s) (limit_of s) (test_of s) s.log
        (subst (λ e. IsDone (workers_of s) (work_made (test_of s) (limit_of s)) e s.log) round.none_before (tells.0 says)),
    λ done. tells.1 (subst (λ e. IsDone (workers_of s) (work_made (test_of s) (limit_of s)) e s.log) (sym round.none_before)
        (IsDone-unwrap (workers_of s) (limit_of s) (test_of s) s.log done)),
  )

  -- no task may be given, by the log
  pub NoneToGive-round : NoneReady (made_by work_does s.scheduler) s.scheduler.events
      → Within (nets.made (limit_of s) (test_of s) (log_of s)) (nets.given (log_of s))
  NoneToGive-round none = subst (λ made. Within made (nets.given (log_of s))) made-is
      (subst (Within (made_by work_does s.scheduler)) given-is none)

  -- a worker that owes an answer, by the log
  pub owed-round : (w : ℕ) → length (nets.got_from w (log_of s)) < length (nets.given_to w (log_of s)) → length (answered w s.log) < length (asked w s.log)
  owed-round w owed = omega (arith, owed, asked-length w s.log, answered-length w s.log)

  pub out-round : (w out : ℕ) → out + length (answered w s.log) ≡ length (asked w s.log)
      → out + length (nets.got_from w (log_of s)) ≡ length (nets.given_to w (log_of s))
  out-round w out is = omega (arith, is, asked-length w s.log, answered-length w s.log)

-- after a move, and after none
pub GoesRound-move : (s s' : RoundState) (move : Move Rec Sent) → IsRound s → Moves work_does s s' move → GoesRound s s' (wrap_log (move ∷ s.log)) (taken_of s)
GoesRound-move s s' move round moves =
    let next : IsRound s' = record { kept = moves.kept; none_before = ap (λ (w : WorkState). w.events) moves.start ∙ round.none_before } in
    record {
      round = next;
      logged = IsLogged-round s' next;
      log = ap wrap_log moves.log;
      taken = moves.taken;
      test = ap (λ (w : WorkState). w.test) moves.start;
      limit = ap (λ (w : WorkState). w.limit) moves.start;
      workers = moves.workers;
    }

pub GoesRound-rest : (s s' : RoundState) → IsRound s → Rests work_does s s' → GoesRound s s' (log_of s) (taken_of s)
GoesRound-rest s s' round rests =
    let next : IsRound s' = record { kept = rests.kept; none_before = ap (λ (w : WorkState). w.events) rests.start ∙ round.none_before } in
    record {
      round = next;
      logged = IsLogged-round s' next;
      log = ap wrap_log rests.log;
      taken = rests.taken;
      test = ap (λ (w : WorkState). w.test) rests.start;
      limit = ap (λ (w : WorkState). w.limit) rests.start;
      workers = rests.workers;
    }

pub GivesTask-gives : (w : ℕ) (s s' : RoundState) (t : Option Rec) → IsRound s → Gives work_does w s t s' → GivesTask w s t s'
GivesTask-gives w s s' None round gives = (NoneToGive-round s round gives.0, GoesRound-rest s s' round gives.1)
GivesTask-gives w s s' (Some t) round gives = GoesRound-move s s' (Gave w gives.0 t) round gives.1

pub TakesOut-held : (s s' : RoundState) (x : Option Rec) → IsRound s → IsKept work_does s' → TakesHeld s x s' → TakesOut s x s'
TakesOut-held s s' None round kept takes =
    (takes.0.0, takes.1 ∙ ap (λ (w : WorkState). over_work s w) takes.0.1)
TakesOut-held s s' (Some x) round kept takes =
    let start : s'.start ≡ s.start = ap (λ (m : RoundState). m.start) takes.1 in
    let log : s'.log ≡ s.log = ap (λ (m : RoundState). m.log) takes.1 in
    let held : s'.held ≡ s.held = ap (λ (m : RoundState). m.held) takes.1 in
    let next : IsRound s' = record { kept = kept; none_before = ap (λ (w : WorkState). w.events) start ∙ round.none_before } in (
      takes.0.0,
      record {
        round = next;
        logged = IsLogged-round s' next;
        log = ap wrap_log log;
        taken = ap (λ (w : WorkState). w.taken) takes.0.1;
        test = ap (λ (w : WorkState). w.test) start;
        limit = ap (λ (w : WorkState). w.limit) start;
        workers = ap length held;
      },
    )

pub IsOpened-new : (p : Test) (m n : ℕ) (w : WorkState) (s : RoundState) → w ≡ opened_work p m → s ≡ opened_master w n → IsKept work_does s → IsOpened p m n s
IsOpened-new p m n w s is opened kept =
    let start : s.start ≡ opened_work p m = ap (λ (r : RoundState). r.start) opened ∙ is in
    let first : IsRound s = record { kept = kept; none_before = ap (λ (w : WorkState). w.events) start } in
    record {
      round = first;
      logged = IsLogged-round s first;
      log = ap wrap_log (ap (λ (r : RoundState). r.log) opened);
      taken = ap (λ (r : RoundState). r.scheduler.taken) opened ∙ ap (λ (w : WorkState). w.taken) is;
      test = ap (λ (w : WorkState). w.test) start;
      limit = ap (λ (w : WorkState). w.limit) start;
      workers = ap length (ap (λ (r : RoundState). r.held) opened) ∙ length-replicate n [];
    }
