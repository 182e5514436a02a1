-- Values that wait for those of the other half.
use Rattle.std.specs.Prelude.{◌≡◌, ℕ, ◌+◌, ◌-◌, ◌/◌, ◌%◌, ◌==◌, if◌then◌else◌, nat_eq, List, Option, Some, None, ℤ}
use Rattle.std.specs.Map.{lookup}
use Rattle.ff_dc.specs.Spans.{Span}
use Rattle.ff_dc.specs.Divisions.{Division, Cut, part_count, part_at, Answers}
use Rattle.ff_dc_tasks.specs.declared.task.DcTask.{DcTask}
use Rattle.ff_dc_tasks.specs.declared.task.DcTask.TheVariants.{Combine}
use Rattle.ff_dc_tasks.specs.declared.place.Place.{Place}
use Rattle.ff_dc_tasks.specs.declared.place.Pair.{Pair}
use Rattle.ff_dc_tasks.specs.declared.halves.Half.{Half}
use Rattle.ff_dc_tasks.specs.Tasks.{value_in, IsTask}
use Rattle.ff_dc_tasks.specs.Paths.{path_at}

-- the task of a part whose two parts have their values
abbrev pub task_of : Pair → DcTask
task_of x = Combine x.place.number x.left x.right

-- the half that waits, by the path to the part
abbrev pub half_at : ℕ → List (ℕ × Half) → Option Half
half_at path halves = lookup (nat_eq path) halves

-- a part with its left and its right half. The left one has the number behind it
abbrev pub pair_from : ℕ → Half → Half → Pair
pair_from path x y = record { place = record { path = path; number = x.number - 1 }; left = x.values; right = y.values }

-- a part with the half that comes and the one that waited. The path to a left part is even
abbrev pub pair_of : Place → List ℤ → Half → Pair
pair_of place v other =
    let half : Half = record { number = place.number; values = v } in
    if place.path % 2 == 0 then pair_from (place.path / 2) half other else pair_from (place.path / 2) other half

-- the half that comes is kept where the other one isn't done; else both are a pair, and neither is kept
abbrev pub Meets : List (ℕ × Half) → Place → List ℤ → Option Pair → List (ℕ × Half) → Type 0
Meets halves place v None halves' =
    (half_at (place.path / 2) halves ≡ None)
    × ((q : ℕ) → half_at q halves' ≡ (if place.path / 2 == q then Some (record { number = place.number; values = v }) else half_at q halves))
Meets halves place v (Some x) halves' =
    (other : Half) × (half_at (place.path / 2) halves ≡ Some other) × (x ≡ pair_of place v other)
    × ((q : ℕ) → half_at q halves' ≡ (if place.path / 2 == q then None else half_at q halves))

-- a part that can be combined, with its path
pub record IsPaired (d : Division) (done : Answers) (x : Pair) : Type 0 where
  pub path : x.place.path ≡ path_at d x.place.number
  pub task : IsTask d done (task_of x)

-- the half that waits of a part, where the one of its two parts has its values and the other one hasn't
abbrev pub waiting : ℕ → Option (List ℤ) → ℕ → Option (List ℤ) → Option Half
waiting i None j None = None
waiting i (Some v) j None = Some (record { number = i; values = v })
waiting i None j (Some w) = Some (record { number = j; values = w })
waiting i (Some v) j (Some w) = None

-- the halves that wait are those of the parts of which one half is done
abbrev pub AreWaiting : Division → Answers → List (ℕ × Half) → Type 0
AreWaiting d done halves =
    (n : ℕ) (p : Span) (l r : Division) → part_at d n ≡ Some (Cut p l r)
    → half_at (path_at d n) halves ≡ waiting (n + 1) (value_in done (n + 1)) (n + 1 + part_count l) (value_in done (n + 1 + part_count l))
