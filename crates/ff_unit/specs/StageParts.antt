-- What the parts of a stage do, each for itself.
use Rattle.std.specs.Prelude.{◌≡◌, Bool, List, [], ◌∷◌, ◌++◌, Option, None, Some}
use Rattle.std.specs.Option.{option_to_list}
use Rattle.ff_rec.specs.Lines.{Rec}
use Rattle.ff_rec.specs.declared.msg.Msg.TheVariants.{Item, Abort as AbortMsg}
use Rattle.ff_node.specs.Runs.{Message}
use Rattle.ff_port.specs.declared.answers.End.{End}
use Rattle.ff_unit.specs.Stage.{StageState}
use Rattle.ff_unit.specs.declared.mode.Mode.TheVariants.{Cut}

-- a stage with a message in front of what it holds
abbrev pub led_by : {N : Type 0} → Option Message → StageState N → StageState N
led_by front u = record u { held = option_to_list front ++ u.held }

-- the first held message is taken out, or none is held
abbrev pub TakesHeld : List Message → Option Message → List Message → Type 0
TakesHeld held None held' = (held ≡ []) × (held' ≡ [])
TakesHeld held (Some m) held' = held ≡ m ∷ held'

-- the first record that the node sent is taken out, or none is
abbrev pub TakesSent : {N : Type 0} → StageState N → Option Rec → StageState N → Type 0
TakesSent u None v = v ≡ u
TakesSent u (Some r) v = (u.held ≡ Item r ∷ v.held) × (v ≡ record u { held = v.held })

-- Abort alone is held, and nothing of the sends and rejects is left
abbrev pub given_up : {N : Type 0} → StageState N → Bool → Option End → StageState N
given_up u keeps fin = record { node = u.node; held = AbortMsg ∷ []; mode = Cut; fin = fin; done = u.done; told = u.told; rejects = 0; keeps = keeps; kept = []; taken = u.taken }
