-- A loop whose workers were joined.
use Rattle.std.proofs.Common.{◌≡◌, ℕ, zero, suc, ◌<◌, ◌≤◌, List, [], ◌∷◌, ◌++◌, length, map, get_or, refl, sym, ap, ap₂, subst, ◌∙◌, arith}
use Rattle.std.proofs.lemmas.List.{length-map}
use Rattle.std.proofs.lemmas.List.Elements.{recursion_from_All}
use Rattle.std.specs.List.{All, AllByRecursion}
use Rattle.ff_rec.specs.Streams.{items}
use Rattle.ff_spawn.specs.Counts.{RoseBy}
use Rattle.ff_loop.specs.Events.{backs, AreAnswered}
use Rattle.ff_loop.specs.Moves.{events_on, asked, answered, numbers_to, numbers_from, IsLegal, IsDone}
use Rattle.ff_loop.specs.Scheduling.{Scheduling}
use Rattle.ff_tasks.specs.Crews.{AreSound, IsFreshSeat, IsManned, came, handlers_of}
use Rattle.ff_tasks.specs.Jobs.{JobState, Begins}
use Rattle.ff_tasks.specs.Loops.{AllAnswer, IsSound, KeepsAnswers, LoopRan}
use Rattle.ff_tasks.specs.Seats.{SeatState, links}
use Rattle.ff_tasks.specs.Serving.{WorksOff, given_at, came_at}
use Rattle.ff_tasks.proofs.Answered.{Fits, AreAnswered-fits}
use Rattle.ff_tasks.proofs.Firsts.{Begins-refl, Begins-same, same-length}
use Rattle.ff_tasks.proofs.Worked.{came-backs}

module _ {T A : Type 0} where
  -- nothing was given or came at fresh seats
  none-given : (ss : List (SeatState T A)) (j : ℕ) → AllByRecursion (λ s. IsFreshSeat s) ss → given_at j ss ≡ []
  none-given [] j fresh = refl
  none-given (s ∷ ss) zero fresh = ap items fresh.0.put
  none-given (s ∷ ss) (suc j) fresh = none-given ss j fresh.1

  none-came : (ss : List (SeatState T A)) (j : ℕ) → AllByRecursion (λ s. IsFreshSeat s) ss → came_at j ss ≡ []
  none-came [] j fresh = refl
  none-came (s ∷ ss) zero fresh = ap items fresh.0.got
  none-came (s ∷ ss) (suc j) fresh = none-came ss j fresh.1

  -- what came at one of the seats
  sound-at : (f : T → A) (ss : List (SeatState T A)) (j : ℕ) → j < length ss → AreSound f ss → Begins (came_at j ss) (map f (given_at j ss))
  sound-at f [] j below sound = absurd (omega arith)
  sound-at f (s ∷ ss) zero below sound = sound.0
  sound-at f (s ∷ ss) (suc j) below sound = sound-at f ss j (omega (arith, below)) sound.1

  -- there are as many seats as jobs
  pub length-manned : {H : Type 0} (ss : List (SeatState T A)) (jobs : List (JobState T A H)) → IsManned ss jobs → length ss ≡ length jobs
  length-manned ss jobs manned = sym (length-map ss (λ s. s.link)) ∙ ap length manned.links ∙ length-map jobs (λ job. job.link)

module _ {T A S H : Type 0} (d : Scheduling T A S) (answers : H → T → A) (handlers : List H) (jobs : List (JobState T A H)) (before after : S)
    (ss ss' : List (SeatState T A)) (handlers_are : handlers_of jobs ≡ handlers) (manned : IsManned ss jobs) (manned' : IsManned ss' jobs)
    (fresh : All (λ s. IsFreshSeat s) ss) (works : WorksOff d before after ss ss')
    (sound : (f : T → A) → AllAnswer answers f (handlers_of jobs) → AreSound f ss') where
  as-many : length ss ≡ length handlers
  as-many = length-manned ss jobs manned ∙ sym (length-map jobs (λ job. job.handler)) ∙ ap length handlers_are

  as-many' : length ss' ≡ length ss
  as-many' = length-manned ss' jobs manned' ∙ sym (length-manned ss jobs manned)

  -- over fresh seats what was given and what came is what the log tells
  asked-is : (j : ℕ) → j < length ss → given_at j ss' ≡ asked j works.log
  asked-is j below = works.put j below ∙ ap (λ l. l ++ asked j works.log) (none-given ss j (recursion_from_All (λ s. IsFreshSeat s) ss fresh))

  answered-is : (j : ℕ) → j < length ss → came_at j ss' ≡ answered j works.log
  answered-is j below = works.got j below ∙ ap (λ l. l ++ answered j works.log) (none-came ss j (recursion_from_All (λ s. IsFreshSeat s) ss fresh))

  -- the first of the answers were those of their tasks, and all came
  is-sound : (f : T → A) → AllAnswer answers f handlers → IsSound (length ss) f works.log
  is-sound f all j below =
      let first : Begins (answered j works.log) (map f (asked j works.log)) =
      subst (λ xs. Begins xs (map f (asked j works.log))) (answered-is j below)
      (subst (λ ts. Begins (came_at j ss') (map f ts)) (asked-is j below)
      (sound-at f ss' j (subst (λ n. j < n) (sym as-many') below) (sound f (subst (λ hs. AllAnswer answers f hs) (sym handlers_are) all)))) in
      same-length (answered j works.log) (map f (asked j works.log)) first (works.done.all_got j below ∙ sym (length-map (asked j works.log) f))

  pub LoopRan-finished : (worked worked' : ℕ) → RoseBy (came ss') worked worked' → LoopRan d answers handlers before after worked worked'
  LoopRan-finished worked worked' rose = record {
    right = works.right;
    kind = works.kind;
    taken = works.taken;
    idle = works.idle;
    log = works.log;
    unfed = works.unfed;
    events = works.events;
    legal = subst (λ n. IsLegal n (d.made (d.kind before)) (d.events before) works.log) as-many works.legal;
    done = subst (λ n. IsDone n (d.made (d.kind before)) (d.events before) works.log) as-many works.done;
    sound = λ f all. subst (λ n. IsSound n f works.log) as-many (is-sound f all);
    work = subst (λ n. RoseBy n worked worked')
        (came-backs ss' (d.made (d.kind before)) (d.events before) works.log
        (subst (λ n. IsLegal n (d.made (d.kind before)) (d.events before) works.log) (sym as-many') works.legal)
        (λ j below. answered-is j (subst (λ n. j < n) as-many' below)))
        rose;
  }

  pub KeepsAnswers-finished : KeepsAnswers d answers handlers before after
  KeepsAnswers-finished f all old = subst (λ e. AreAnswered f e) (sym works.events)
      (AreAnswered-fits (length ss) f (λ j. asked j works.log) (λ j. numbers_to j works.log) (d.made (d.kind before)) (d.events before) works.log works.legal
      (record {
        asked = λ j below. Begins-refl (asked j works.log);
        answered = λ j below. Begins-same (answered j works.log) (map f (asked j works.log)) (sym (is-sound f all j below));
        numbers_to = λ j below. Begins-refl (numbers_to j works.log);
        numbers_from = works.queues;
      }) old)
