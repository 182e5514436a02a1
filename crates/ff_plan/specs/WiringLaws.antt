-- How the units of a plan are joined: each edge has one writer and one reader.
use Rattle.std.specs.Prelude.{◌≡◌, ◌≢◌, ℕ, ◌<◌, List, [], ◌∷◌, ◌++◌, map, length, slice_index, slice_index_or}
use Rattle.ff_net.specs.Counts.{units, edges}
use Rattle.ff_net.specs.Tree.{Tree}
use Rattle.ff_plan.specs.Plans.{rows_of}
use Rattle.ff_plan.specs.Rows.{Row}

-- the ports of party `p`
abbrev pub ports_at : List (List ℕ) → ℕ → List ℕ
ports_at ports p = slice_index_or ports p []

-- port `i` of party `p` is joined to edge `e`
pub record IsPort (ports : List (List ℕ)) (e p i : ℕ) : Type 0 where
  pub party : p < length ports
  pub port : i < length (ports_at ports p)
  pub edge : slice_index (ports_at ports p) i ≡ e

-- an edge and a port to which it is joined
pub record Joined (ports : List (List ℕ)) (e : ℕ) : Type 0 where
  pub party : ℕ
  pub port : ℕ
  pub at : IsPort ports e party port

-- each port is joined to one of so many edges, and each of these to just one port
pub record EachOnce (ports : List (List ℕ)) (edges : ℕ) : Type 0 where
  pub within : (e p i : ℕ) → IsPort ports e p i → e < edges
  pub once : (e p q i j : ℕ) → IsPort ports e p i → IsPort ports e q j → (p ≡ q) × (i ≡ j)
  pub each : (e : ℕ) → e < edges → Joined ports e

-- the ins of the units, and those of the caller: as the one who writes edge 0, none, and as the one who reads edge 1
abbrev pub unit_ins : List Row → List (List ℕ)
unit_ins rows = map (λ row. row.ins) rows

abbrev pub all_ins : List Row → List (List ℕ)
all_ins rows = unit_ins rows ++ [] ∷ (1 ∷ []) ∷ []

-- the outs of the units, and those of the caller
abbrev pub unit_outs : List Row → List (List ℕ)
unit_outs rows = map (λ row. row.outs) rows

abbrev pub all_outs : List Row → List (List ℕ)
all_outs rows = unit_outs rows ++ (0 ∷ []) ∷ [] ∷ []

-- a plan has the units that are counted for its network. Each edge has one reader and one writer: the caller writes edge 0 and reads
-- edge 1, and a unit each other one. Nobody reads what he writes
pub record IsJoined {N : Type 0} (t : Tree N) : Type 0 where
  pub many : length (rows_of t) ≡ units t
  pub readers : EachOnce (all_ins (rows_of t)) (edges t)
  pub writers : EachOnce (all_outs (rows_of t)) (edges t)
  pub read : (e : ℕ) → e < edges t → e ≢ 1 → Joined (unit_ins (rows_of t)) e
  pub written : (e : ℕ) → e < edges t → e ≢ 0 → Joined (unit_outs (rows_of t)) e
  pub apart : (e p i j : ℕ) → IsPort (all_ins (rows_of t)) e p i → IsPort (all_outs (rows_of t)) e p j → ⊥
