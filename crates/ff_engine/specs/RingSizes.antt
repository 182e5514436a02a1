-- How much the rings between threads hold.
use Rattle.std.specs.Prelude.{◌≡◌, ℕ, List, map, All}
use Rattle.std.proofs.Common.{deque_capacity}
use Rattle.ff_rec.specs.Lines.{Rec}
use Rattle.ff_net.specs.Tree.{Tree}
use Rattle.ff_plan.specs.Plans.{edge_of, rows_of}
use Rattle.ff_plan.specs.declared.kind.Queue.TheVariants.{Ring}
use Rattle.ff_ring.specs.Outlets.{slots_of}
use Rattle.ff_ring.specs.Sizes.{bundle_size, bundle_count}
use Rattle.ff_ring.specs.declared.ring_out.RingOut.{RingOut}
use Rattle.ff_engine.specs.Jobs.{JobState, RingSize}

-- the size of the ring that this end writes
abbrev pub size_of : RingOut Rec → RingSize
size_of out = record { bundle = deque_capacity out.bundle; slots = slots_of out.outlet }

-- the size of a ring for so many messages
abbrev pub size_for : ℕ → RingSize
size_for cap = record { bundle = bundle_size cap; slots = bundle_count cap }

-- the size of the ring of edge `e`: for `cap` messages, and for one where records are handed out on demand
abbrev pub plan_size : {N : Type 0} → Tree N → ℕ → ℕ → RingSize
plan_size t cap e = size_for (edge_of (rows_of t) cap Ring e).cap

-- the rings that these jobs write are of the sizes of their edges
abbrev pub AreSized : {U : Type 0} → (ℕ → RingSize) → List (JobState U) → Type 0
AreSized {U} size jobs = All (λ (job : JobState U). job.sizes ≡ map size job.row.outs) jobs
