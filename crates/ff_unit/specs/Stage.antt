-- The state of a stage: a node with what it holds to be put.
use Rattle.std.specs.Prelude.{ℕ, Bool, false, List, [], Option, None}
use Rattle.ff_rec.specs.Lines.{Rec}
use Rattle.ff_node.specs.Behaviour.{Behaviour}
use Rattle.ff_node.specs.Runs.{Message}
use Rattle.ff_port.specs.declared.answers.End.{End}
use Rattle.ff_unit.specs.declared.mode.Mode.{Mode}
use Rattle.ff_unit.specs.declared.mode.Mode.TheVariants.{Live}

pub record StageState (N : Type 0) : Type 0 where
  -- the node in its state
  pub node : N
  -- what is to be put, in its order
  pub held : List Message
  -- whether the node is live, has ended, or the stream was cut off
  pub mode : Mode
  -- how the unit will end, once that is decided
  pub fin : Option End
  -- whether it has ended, and whether it was told to abort
  pub done : Bool
  pub told : Bool
  -- how many records the node rejected, whether they are kept, those kept and not taken out yet, and those taken out
  pub rejects : ℕ
  pub keeps : Bool
  pub kept : List Rec
  pub taken : List Rec

-- a stage that made no step, whose node is in this state
abbrev pub started : {N : Type 0} → N → Bool → StageState N
started n keeps = record { node = n; held = []; mode = Live; fin = None; done = false; told = false; rejects = 0; keeps = keeps; kept = []; taken = [] }

-- a stage that made no step
abbrev pub opened_stage : {N : Type 0} → Behaviour N → N → Bool → StageState N
opened_stage b o keeps = started (b.opening o) keeps

-- the stage as it was before its first step
abbrev pub opening_stage : {N : Type 0} → Behaviour N → StageState N → StageState N
opening_stage b u = opened_stage b u.node u.keeps
