-- What a stage asks of its ports, and where it waits.
use Rattle.std.specs.Prelude.{◌≡◌, ◌≢◌, ◌⊎◌, true, List, [], ◌∷◌, length, Option, None, Some, IsSome, slice_index}
use Rattle.ff_rec.specs.Streams.{IsOpen, at}
use Rattle.ff_node.specs.Runs.{Message}
use Rattle.ff_port.specs.declared.answers.End.{End}
use Rattle.ff_unit.specs.Stage.{StageState}
use Rattle.ff_unit.specs.Units.{Known}

-- one in and one out; while something is held, neither Eos nor Abort was put; one that has ended holds nothing
pub record StageReady {N : Type 0} (u : StageState N) (gots puts : List (List Message)) : Type 0 where
  pub one_in : length gots ≡ 1
  pub one_out : length puts ≡ 1
  pub open_out : (u.held ≡ []) ⊎ IsOpen (at puts 0)
  pub ended : u.done ≡ true → (u.held ≡ []) × IsSome u.fin

-- the port that was due, by what is held and whether the end is decided: the out had no room, something still waits to be
-- handed over, or the in gave nothing
abbrev pub Stalls : List Message → Option End → Known → Known → Type 0
Stalls (m ∷ held) fin before after = (slice_index before.rooms 0 ≡ 0) × (slice_index after.rooms 0 ≡ 0)
Stalls [] (Some fin) before after = after.waiting ≢ 0
Stalls [] None before after = (slice_index before.knowns 0 ≡ 0) × (slice_index after.knowns 0 ≡ 0)
