-- Jobs over rings: each has the ends of its unit's edges, by their numbers.
use Rattle.std.specs.Prelude.{◌≡◌, ℕ, List, ◌∷◌, ◌++◌, map, All}
use Rattle.std.specs.List.{flat_map}
use Rattle.ff_rec.specs.Weights.{Same}
use Rattle.ff_node.specs.Runs.{Message}
use Rattle.ff_plan.specs.Rows.{Row, range}
use Rattle.ff_ring.specs.Names.{RingName}
use Rattle.ff_engine.specs.Jobs.{JobState}

-- the edges that are read, by the caller and by these units, and those that are written
abbrev pub read_edges : List Row → List ℕ
read_edges rows = 1 ∷ flat_map (λ row. row.ins) rows

abbrev pub written_edges : List Row → List ℕ
written_edges rows = 0 ∷ flat_map (λ row. row.outs) rows

-- of `n` edges each has one reader and one writer
pub record IsWired (rows : List Row) (n : ℕ) : Type 0 where
  pub reads : Same (read_edges rows) (range 0 n)
  pub writes : Same (written_edges rows) (range 0 n)

-- a job has an end of the ring of each of its unit's edges
pub record HasEnds {U : Type 0} (name : ℕ → RingName) (job : JobState U) : Type 0 where
  pub reads : job.reads ≡ map name job.row.ins
  pub writes : job.writes ≡ map name job.row.outs

-- each edge has a ring: the caller writes that of edge 0 and reads that of edge 1, and each job those of its unit's edges
pub record Linked {U : Type 0} (first : RingName) (jobs : List (JobState U)) (last : RingName) : Type 0 where
  pub name : ℕ → RingName
  pub first_is : first ≡ name 0
  pub last_is : last ≡ name 1
  pub each : All (λ job. HasEnds name job) jobs

-- a job took what was got from the edges of its ins, and put what was put on those of its outs
pub record HasMoved {U : Type 0} (got put : ℕ → List Message) (job : JobState U) : Type 0 where
  pub gots : job.gots ≡ map got job.row.ins
  pub puts : job.puts ≡ map put job.row.outs

-- what was got from each edge is the first of what was put on it, by the caller, who put the messages before all jobs on edge 0 and
-- took others from edge 1, and by the jobs
pub record IsSettled {U : Type 0} (before : List Message) (jobs : List (JobState U)) (taken : List Message) : Type 0 where
  pub got : ℕ → List Message
  pub put : ℕ → List Message
  pub first : (e : ℕ) → (rest : List Message) × (put e ≡ got e ++ rest)
  pub fed : put 0 ≡ before
  pub drained : got 1 ≡ taken
  pub each : All (λ job. HasMoved got put job) jobs
