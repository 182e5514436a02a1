-- The tasks of a brood: which ones come, by what happened, and what is held of them.
use Rattle.std.specs.Prelude.{◌≡◌, ℕ, ◌+◌, ◌/◌, ◌%◌, ◌^◌, ◌<◌, List, [], ◌∷◌, ◌++◌, length, replicate}
use Rattle.std.specs.List.{AllByRecursion}
use Rattle.ff_rec.specs.Weights.{weigh}
use Rattle.ff_net.specs.Logs.{Within}
use Rattle.ff_loop.specs.Events.{SchedEvent, Offered, Given, Back, given, numbers, backs}
use Rattle.ff_loop.specs.Scheduling.{Scheduling}
use Rattle.ff_tasks_tests.specs.declared.brood.Brood.{Brood}

-- the tasks that an answer makes: as many as its last three digits say, each the number before these
abbrev pub young : ℕ → List ℕ
young a = replicate (a % 1000) (a / 1000)

-- the tasks that came: those that were fed in, and those that answers made
abbrev pub came : List (SchedEvent ℕ ℕ) → List ℕ
came [] = []
came (Offered t ∷ log) = came log ++ t ∷ []
came (Given id t ∷ log) = came log
came (Back id a ∷ log) = came log ++ young a

-- the answers that came back, in their order
abbrev pub came_back : List (SchedEvent ℕ ℕ) → List ℕ
came_back [] = []
came_back (Offered t ∷ log) = came_back log
came_back (Given id t ∷ log) = came_back log
came_back (Back id a ∷ log) = came_back log ++ a ∷ []

-- these tasks are ready, these answers came back, and so many tasks came, were given and are back
pub record Holds (ready answers : List ℕ) (all gave back : ℕ) (log : List (SchedEvent ℕ ℕ)) : Type 0 where
  -- each task that came was given or is ready
  pub tasks : (h : ℕ → ℕ) → weigh h (given log) + weigh h ready ≡ weigh h (came log)
  pub answers_are : answers ≡ came_back log
  pub all_is : all ≡ gave + length ready
  pub few : all < 2 ^ 64
  pub given_is : gave ≡ length (numbers log)
  pub back_is : back ≡ length (backs log)
  pub numbers_below : AllByRecursion (λ n. n < gave) (numbers log)
  pub balance : Within (backs log) (numbers log)

-- what it holds is as its events say
abbrev pub IsRight : Brood → Type 0
IsRight b = Holds b.ready.items b.answers.items b.came b.given b.back b.events

-- so many tasks of one number came, and nothing else changed
pub record HasGrown (before after : Brood) (count task : ℕ) : Type 0 where
  pub ready_is : after.ready.items ≡ before.ready.items ++ replicate count task
  pub answers_stay : after.answers.items ≡ before.answers.items
  pub came_is : after.came ≡ before.came + count
  pub few : after.came < 2 ^ 64
  pub given_stays : after.given ≡ before.given
  pub back_stays : after.back ≡ before.back
  pub events_stay : after.events ≡ before.events

-- a brood as a scheduler
abbrev pub brood_does : Scheduling ℕ ℕ Brood
brood_does = record {
  Kind = Unit {0};
  kind = λ b. tt;
  made = λ k log. came log;
  events = λ b. b.events;
  Taken = Unit {0};
  taken = λ b. tt;
  IsRight = IsRight;
}
