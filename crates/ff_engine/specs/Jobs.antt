-- A unit with its ports, which runs in a thread of its own.
use Rattle.std.specs.Prelude.{◌≡◌, ◌<◌, ℕ, true, List, [], length, replicate, slice_index}
use Rattle.std.specs.List.{sum_by}
use Rattle.ff_rec.specs.Counts.{counted}
use Rattle.ff_node.specs.Runs.{Message}
use Rattle.ff_plan.specs.Rows.{Row}
use Rattle.ff_ring.specs.Names.{RingName}
use Rattle.ff_unit.specs.Units.{Doing, Ran}

-- how many messages a full bundle of a ring has, and for how many bundles the ring has slots
pub record RingSize : Type 0 where
  pub bundle : ℕ
  pub slots : ℕ

-- `U` is what is seen of the unit
pub record JobState (U : Type 0) : Type 0 where
  pub unit : U
  -- its row of the plan
  pub row : Row
  -- what it took at its ins and put at its outs, and how much room is known at each out
  pub gots : List (List Message)
  pub puts : List (List Message)
  pub rooms : List ℕ
  -- how much the ring at each out holds
  pub sizes : List RingSize
  -- the rings that its ins read and its outs write
  pub reads : List RingName
  pub writes : List RingName

-- how many messages it took, as far as a count of 64 bits tells
abbrev pub handled : {U : Type 0} → JobState U → ℕ
handled job = counted (sum_by (λ (ms : List Message). length ms) job.gots)

-- a unit before its first step, with as many ins and outs as its row of the plan has
pub record IsOpened {U : Type 0} (d : Doing U) (row : Row) (u : U) : Type 0 where
  pub made : d.Made u
  pub opened : u ≡ d.opening u
  pub ins : d.ins u ≡ length row.ins
  pub outs : d.outs u ≡ length row.outs
  pub ran : Ran d u (replicate (length row.ins) []) (replicate (length row.outs) [])

-- a job that made no step
pub record IsFresh {U : Type 0} (d : Doing U) (job : JobState U) : Type 0 where
  pub made : d.Made job.unit
  pub opened : job.unit ≡ d.opening job.unit
  pub gots : job.gots ≡ replicate (d.ins job.unit) []
  pub puts : job.puts ≡ replicate (d.outs job.unit) []
  pub room : (k : ℕ) → k < d.outs job.unit → 0 < slice_index job.rooms k

-- each of its ends has a ring
pub record HasPorts {U : Type 0} (job : JobState U) : Type 0 where
  pub gots : length job.gots ≡ length job.reads
  pub puts : length job.puts ≡ length job.writes

-- a job ran until its unit had ended: by the unit's own steps, over the same rings, and no reject was taken out
pub record HasWorked {U : Type 0} (d : Doing U) (before after : JobState U) : Type 0 where
  pub done : d.done after.unit ≡ true
  pub ran : Ran d after.unit after.gots after.puts
  pub start : d.opening after.unit ≡ d.opening before.unit
  pub taken : d.taken after.unit ≡ d.taken before.unit
  pub told : d.told after.unit ≡ d.told before.unit
  pub row : after.row ≡ before.row
  pub reads : after.reads ≡ before.reads
  pub writes : after.writes ≡ before.writes
  pub ports : HasPorts after
