-- Workers of which all, or not all, were started.
use Rattle.std.proofs.Common.{◌≡◌, ℕ, ◌<◌, false, List, [], ◌++◌, length, map, get_or, sym, ap, ◌∙◌, subst, arith, length-append}
use Rattle.std.proofs.lemmas.List.{get_or_append_left, length-map}
use Rattle.std.specs.List.{All}
use Rattle.ff_spawn.specs.Counts.{RoseBy, count_more}
use Rattle.ff_spawn.specs.CountLaws.{RoseBy-count_more}
use Rattle.ff_tasks.specs.Crews.{IsManned, handlers_of}
use Rattle.ff_tasks.specs.Jobs.{JobState}
use Rattle.ff_tasks.specs.Seats.{SeatState}

-- what holds of each of a list holds of each of its front
pub All-front : {X : Type 0} (P : X → Type 0) (xs ys : List X) → All P (xs ++ ys) → All P xs
All-front P xs ys all k d below = subst P (get_or_append_left xs ys d k below) (all k d (omega (arith, below, length-append xs ys)))

-- where none is left, all were started
pub all-started : {J : Type 0} (left started jobs : List J) → left ++ started ≡ jobs → left ≡ [] → started ≡ jobs
all-started left started jobs all none = ap (λ l. l ++ started) (sym none) ∙ all

pub RoseBy-started : {T A H : Type 0} (jobs : List (JobState T A H)) (handlers : List H) (starts starts' : ℕ) → handlers_of jobs ≡ handlers → starts' ≡ count_more starts jobs
    → RoseBy (length handlers) starts starts'
RoseBy-started jobs handlers starts starts' are rose =
    omega (arith, rose, RoseBy-count_more starts jobs, length-map jobs (λ job. job.handler), ap length are)
