-- Workers in threads of their own, with the master's seats.
use Rattle.std.specs.Prelude.{◌≡◌, ℕ, ◌≤◌, false, List, [], length, map, All}
use Rattle.std.specs.List.{AllByRecursion, sum_by}
use Rattle.ff_rec.specs.Streams.{items}
use Rattle.ff_tasks.specs.Jobs.{JobState, Begins}
use Rattle.ff_tasks.specs.Seats.{SeatState, AreOpen, links}

-- nothing went over the rings of these seats, and no worker was told the end
pub record IsFreshSeat {T A : Type 0} (s : SeatState T A) : Type 0 where
  pub put : s.put ≡ []
  pub got : s.got ≡ []

-- the handlers of these jobs
abbrev pub handlers_of : {T A H : Type 0} → List (JobState T A H) → List H
handlers_of jobs = map (λ job. job.handler) jobs

-- each seat has the other ends of the rings of its job, which hadn't ended when it was started; there are 64 at most, and no worker was
-- told the end
pub record IsManned {T A H : Type 0} (ss : List (SeatState T A)) (jobs : List (JobState T A H)) : Type 0 where
  pub links : links ss ≡ map (λ job. job.link) jobs
  pub begin : All (λ job. job.ended ≡ false) jobs
  pub few : length ss ≤ 64
  pub untold : AreOpen ss

-- what came is what `f` gives for the first of the tasks, in their order
abbrev pub AreSound : {T A : Type 0} → (T → A) → List (SeatState T A) → Type 0
AreSound f ss = AllByRecursion (λ s. Begins (items s.got) (map f (items s.put))) ss

-- how many answers came
abbrev pub came : {T A : Type 0} → List (SeatState T A) → ℕ
came ss = sum_by (λ s. length (items s.got)) ss

-- what a worker took is the first of what was put for it, and what came is the first of what it put
pub record IsSettled {T A H : Type 0} (s : SeatState T A) (job : JobState T A H) : Type 0 where
  pub there : Begins job.got s.put
  pub back : Begins s.got job.put
