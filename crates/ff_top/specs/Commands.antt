-- What each command does. Those that aren't built do nothing.
use Rattle.std.specs.Prelude.{◌≡◌, ℕ, Bool, true, false, not, List, Option, None, Some, Result, Err}
use Rattle.ff_net.specs.Tree.{Tree}
use Rattle.ff_ops.specs.Operation.{OpState}
use Rattle.ff_call.specs.Handling.{Handled}
use Rattle.ff_call.specs.Outside.{Outside, IsUntouched}
use Rattle.ff_call.specs.declared.fault.Fault.{Fault}
use Rattle.ff_call.specs.declared.fault.Fault.TheVariants.{NotBuilt}
use Rattle.ff_call_mdf.specs.Computing.{MdfDone}
use Rattle.ff_call_print.specs.Printing.{Printed}
use Rattle.ff_call_print.specs.declared.print.Form.TheVariants as form
use Rattle.ff_call_run.specs.Running.{CannotSweep, IsRunBeyond, IsRunWithin, RunDone, by_threads}
use Rattle.ff_call_soak.specs.Soaking.{Soaked}
use Rattle.ff_words.specs.declared.command.Command.{Command}
use Rattle.ff_words.specs.declared.command.Command.TheVariants.{Run, Check, Plan, Mdf, Soak}
use Rattle.ff_words.specs.declared.command.Given.{Given}

-- whether a command reads the input
abbrev pub reads_input : Command → Bool
reads_input (Run given cap queue tasks way rejects) = true
reads_input _ = false

-- whether all work of a command is done on the calling thread
abbrev pub works_alone : Command → Bool
works_alone (Run given cap queue tasks way rejects) = not (by_threads way)
works_alone (Mdf given workers) = false
works_alone (Soak n workers cap queue) = false
works_alone _ = true

-- the text or file of a command that is given a network
abbrev pub given_to : Command → Option Given
given_to (Run given cap queue tasks way rejects) = Some given
given_to (Check given) = Some given
given_to (Plan given) = Some given
given_to _ = None

-- what a command does with the network that it is given
abbrev pub DoneWith : Command → Tree OpState → Outside → Outside → Result ℕ Fault → Type 0
DoneWith (Run given cap queue tasks way rejects) t before now answer = RunDone tasks way rejects t before now answer
DoneWith (Check given) t before now answer = Printed form.Network t before now answer
DoneWith (Plan given) t before now answer = Printed form.Plan t before now answer
DoneWith _ t before now answer = ⊥

-- what a command does: with the text that it is given, or without one
abbrev pub Works : Command → Outside → Outside → Result ℕ Fault → Type 0
Works (Run given cap queue tasks way rejects) before now answer = Handled given (RunDone tasks way rejects) before now answer
Works (Check given) before now answer = Handled given (Printed form.Network) before now answer
Works (Plan given) before now answer = Handled given (Printed form.Plan) before now answer
Works (Mdf given workers) before now answer = MdfDone given workers before now answer
Works (Soak n workers cap queue) before now answer = Soaked n workers before now answer
Works _ before now answer = (answer ≡ Err NotBuilt) × IsUntouched before now

-- a run may be swept where it is to be, and its input is known, passes no limit, and gives no wrap more tasks than it may have;
-- what prints a network reads none
abbrev pub IsInLimits : Command → Tree OpState → Option (List ℕ) → Type 0
IsInLimits (Run given cap queue tasks way rejects) t left = IsRunWithin way tasks t left
IsInLimits _ t left = Unit {0}

-- the same, but that the input passes a limit or gives a wrap more tasks than it may have
abbrev pub IsBeyond : Command → Tree OpState → Option (List ℕ) → Type 0
IsBeyond (Run given cap queue tasks way rejects) t left = IsRunBeyond way tasks t left
IsBeyond _ t left = ⊥

-- a run is to be swept, and its network can't be
abbrev pub IsUnswept : Command → Tree OpState → Type 0
IsUnswept (Run given cap queue tasks way rejects) t = CannotSweep way t
IsUnswept _ t = ⊥
