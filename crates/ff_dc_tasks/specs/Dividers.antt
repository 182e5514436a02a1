-- The scheduler of a division: what is seen of it, and what it holds by its events.
use Rattle.std.specs.Prelude.{◌≡◌, ℕ, ◌+◌, List, [], ◌++◌, length, map, Option, Some, None, ℤ}
use Rattle.std.specs.List.{AllByRecursion}
use Rattle.ff_rec.specs.Weights.{Same, weigh}
use Rattle.ff_dc.specs.declared.rule.DcRule.{DcRule}
use Rattle.ff_dc.specs.Spans.{Span}
use Rattle.ff_dc.specs.Divisions.{Division, division}
use Rattle.ff_net.specs.Logs.{Within}
use Rattle.ff_loop.specs.Events.{given, numbers, backs}
use Rattle.ff_loop.specs.Scheduling.{Scheduling}
use Rattle.ff_dc_tasks.specs.declared.task.DcTask.{DcTask}
use Rattle.ff_dc_tasks.specs.declared.place.Place.{Place}
use Rattle.ff_dc_tasks.specs.declared.place.Pair.{Pair}
use Rattle.ff_dc_tasks.specs.declared.halves.Half.{Half}
use Rattle.ff_dc_tasks.specs.declared.walk.Walk.{Walk}
use Rattle.ff_dc_tasks.specs.Tasks.{number_of, value_in, IsTask}
use Rattle.ff_dc_tasks.specs.Paths.{path_at}
use Rattle.ff_dc_tasks.specs.Walks.{IsWalk, division_of, to_come}
use Rattle.ff_dc_tasks.specs.Pairs.{task_of, IsPaired, AreWaiting}
use Rattle.ff_dc_tasks.specs.Told.{DcEvent, answers, dc_made, IsTold}

pub record DividerState : Type 0 where
  -- the rule, the division, and how far it was gone through
  pub rule : DcRule
  pub walk : Walk
  -- the parts that can be combined, and the halves that wait
  pub ready : List Pair
  pub halves : List (ℕ × Half)
  -- how many tasks are out
  pub out : ℕ
  -- the values of the whole
  pub values : Option (List ℤ)
  pub events : List DcEvent

-- the whole division
abbrev pub whole_of : DividerState → Division
whole_of s = division_of s.rule s.walk

-- what it holds is as its events say
pub record IsRight (s : DividerState) : Type 0 where
  pub walk : IsWalk s.rule s.walk
  pub told : IsTold (whole_of s) s.events
  pub balance : Within (backs s.events) (numbers s.events)
  pub out_is : s.out + length (backs s.events) ≡ length (numbers s.events)
  -- each task was given, or is that of a part that is to come, or can be given
  pub tasks : Same (dc_made (whole_of s) s.events) (given s.events ++ to_come s.rule s.walk ++ map task_of s.ready)
  pub pairs : AllByRecursion (IsPaired (whole_of s) (answers s.events)) s.ready
  pub halves : AreWaiting (whole_of s) (answers s.events) s.halves
  pub values : s.values ≡ value_in (answers s.events) 0

-- a division of which nothing was done
pub record IsOpened (r : DcRule) (k : ℕ) (p : Span) (s : DividerState) : Type 0 where
  pub right : IsRight s
  pub rule : s.rule ≡ r
  pub cut : s.walk.cut ≡ k
  pub whole : s.walk.whole ≡ p
  pub events : s.events ≡ []

-- a task that can be given is taken out, at its place
pub record TakesOne (s : DividerState) (place : Place) (t : DcTask) (s' : DividerState) : Type 0 where
  pub rest : s' ≡ record s { walk = s'.walk; ready = s'.ready }
  pub walk : IsWalk s.rule s'.walk
  pub cut : s'.walk.cut ≡ s.walk.cut
  pub whole : s'.walk.whole ≡ s.walk.whole
  pub number : place.number ≡ number_of t
  pub path : place.path ≡ path_at (whole_of s) place.number
  pub task : IsTask (whole_of s) (answers s.events) t
  pub pairs : AllByRecursion (IsPaired (whole_of s) (answers s.events)) s'.ready
  pub first : (h : DcTask → ℕ) → weigh h (to_come s.rule s.walk) + weigh h (map task_of s.ready)
      ≡ h t + weigh h (to_come s.rule s'.walk) + weigh h (map task_of s'.ready)

-- a task that can be given is taken out, or there is none
abbrev pub TakesTask : DividerState → Option (Place × DcTask) → DividerState → Type 0
TakesTask s None s' = (s' ≡ s) × (s.ready ≡ []) × (s.walk.todo ≡ [])
TakesTask s (Some x) s' = TakesOne s x.0 x.1 s'

-- it was made with a rule, a cut and a whole part. What is fed in is dropped
abbrev pub divider_does : Scheduling DcTask (List ℤ) DividerState
divider_does = record {
  Kind = DcRule × ℕ × Span;
  kind = λ s. (s.rule, s.walk.cut, s.walk.whole);
  made = λ k log. dc_made (division k.0 k.1 k.2) log;
  events = λ s. s.events;
  Taken = Unit {0};
  taken = λ s. tt;
  IsRight = IsRight;
}
