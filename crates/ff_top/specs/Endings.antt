-- How a call ends: what each answer means, and when it may come.
use Rattle.std.specs.Prelude.{◌≡◌, ℕ, ◌⊎◌, List, Option, None, Some, option_and_then, Result, Err}
use Rattle.ff_net.specs.Tree.{Tree}
use Rattle.ff_ops.specs.Operation.{OpState}
use Rattle.ff_plan.specs.declared.kind.Queue.{Queue}
use Rattle.ff_prog.specs.declared.statement.Statement.{Statement}
use Rattle.ff_call.specs.Counts.{Counts}
use Rattle.ff_call.specs.Messages.{said, Tells}
use Rattle.ff_call.specs.Outside.{Outside, World, IsUntouched, IsQuiet}
use Rattle.ff_call.specs.Statuses.{status_of}
use Rattle.ff_call.specs.Texts.{IsKnown, IsGiven, IsSpelled, KeepsRules}
use Rattle.ff_call.specs.declared.fault.Fault.{Fault}
use Rattle.ff_call.specs.declared.fault.Fault.TheVariants.{Usage, NoMemory}
use Rattle.ff_call_mdf.specs.Computing.{IsWork as IsMdfWork}
use Rattle.ff_call_mdf.specs.Programs.{IsRead}
use Rattle.ff_call_soak.specs.Soaking.{Soaked}
use Rattle.ff_top.specs.Commands.{DoneWith, Works, given_to, IsInLimits, IsBeyond, IsUnswept}
use Rattle.ff_words.specs.Words.{command}
use Rattle.ff_words.specs.declared.command.Command.{Command}
use Rattle.ff_words.specs.declared.command.Command.TheVariants as of
use Rattle.ff_words.specs.declared.command.Given.{Given as GivenText}

-- the text or file of the command that these words are
abbrev pub description : List (List ℕ) → Option GivenText
description words = option_and_then given_to (command words)

-- the words are a command that is given a network, and it did this with it
pub record Did (words : List (List ℕ)) (before now : Outside) (answer : Result ℕ Fault) : Type 0 where
  pub job : Command
  pub is_command : command words ≡ Some job
  pub given : GivenText
  pub is_description : description words ≡ Some given
  pub net : Tree OpState
  pub is_given : IsGiven before.told given net
  pub done : DoneWith job net before now answer

-- the words ask for a soak, and it was run
pub record DidSoak (words : List (List ℕ)) (before now : Outside) (answer : Result ℕ Fault) : Type 0 where
  pub records : ℕ
  pub workers : ℕ
  pub cap : ℕ
  pub queue : Queue
  pub is_command : command words ≡ Some (of.Soak records workers cap queue)
  pub done : Soaked records workers before now answer

-- the words ask for the run of a program, and it was run
pub record DidMdf (words : List (List ℕ)) (before now : Outside) (answer : Result ℕ Fault) : Type 0 where
  pub given : GivenText
  pub workers : ℕ
  pub is_command : command words ≡ Some (of.Mdf given workers)
  pub done : IsMdfWork given workers before now answer

-- the words are no command, or memory ran out before they were read
abbrev pub IsWordsFault : List (List ℕ) → Result ℕ Fault → Type 0
IsWordsFault words (Err Usage) = command words ≡ None
IsWordsFault words (Err NoMemory) = Unit {0}
IsWordsFault words _ = ⊥

-- the words are a command, and it did this
pub record DidCommand (words : List (List ℕ)) (before now : Outside) (answer : Result ℕ Fault) : Type 0 where
  pub job : Command
  pub is_command : command words ≡ Some job
  pub works : Works job before now answer

-- when each answer of a call comes, and what was read, written and stored then
abbrev pub Comes : List (List ℕ) → Outside → Outside → Result ℕ Fault → Type 0
Comes words before now answer =
    (IsWordsFault words answer × IsUntouched before now) ⊎ DidCommand words before now answer

-- How a call ended: its answer has this status and comes as it may, the counts are as it says, and it was told.
pub record Ended (status : ℕ) (words : List (List ℕ)) (before now : World) : Type 0 where
  pub answer : Result ℕ Fault
  pub has_status : status ≡ status_of answer
  pub comes : Comes words before.outside now.outside answer
  pub counts : Counts before.outside now.outside answer
  pub says : Tells before.said now.said before.err_faults now.err_faults (said answer)

-- the words are this command, which is given a text that is known, and this text spells this network, which keeps all rules
pub record IsAccepted (words : List (List ℕ)) (before : Outside) (job : Command) (t : Tree OpState) : Type 0 where
  pub is_command : command words ≡ Some job
  pub given : GivenText
  pub is_description : description words ≡ Some given
  pub text : List ℕ
  pub is_known : IsKnown before.told given text
  pub spelled : IsSpelled text t
  pub kept : KeepsRules t

-- the words are a command that is given a text that is known, and this text spells no network that keeps all rules
pub record IsRefused (words : List (List ℕ)) (before : Outside) : Type 0 where
  pub given : GivenText
  pub is_description : description words ≡ Some given
  pub text : List ℕ
  pub is_known : IsKnown before.told given text
  pub refused : (t : Tree OpState) → IsSpelled text t → KeepsRules t → ⊥

-- What is answered where no count of faults rose and no start was refused, unless memory ran out: an accepted command over an
-- input within the limits is done, over another a limit is told, a network that is to be swept and can't be, or a text that isn't
-- accepted, is refused, a program that keeps the rules is run, another text than one of such a program is refused, and a soak is done.
pub record IsComplete (status : ℕ) (words : List (List ℕ)) (before now : Outside) : Type 0 where
  pub done : IsQuiet before now → (job : Command) (t : Tree OpState) → IsAccepted words before job t
      → IsInLimits job t before.left → (status ≡ 0) ⊎ (status ≡ 6)
  pub beyond : IsQuiet before now → (job : Command) (t : Tree OpState) → IsAccepted words before job t
      → IsBeyond job t before.left → (status ≡ 3) ⊎ (status ≡ 6)
  pub unswept : IsQuiet before now → (job : Command) (t : Tree OpState) → IsAccepted words before job t
      → IsUnswept job t → (status ≡ 2) ⊎ (status ≡ 6)
  pub refused : IsQuiet before now → IsRefused words before → (status ≡ 2) ⊎ (status ≡ 6)
  pub computed : IsQuiet before now → (given : GivenText) (workers : ℕ) → command words ≡ Some (of.Mdf given workers)
      → (text : List ℕ) → IsKnown before.told given text → (program : List Statement) → IsRead text program → (status ≡ 0) ⊎ (status ≡ 6)
  pub no_program : IsQuiet before now → (given : GivenText) (workers : ℕ) → command words ≡ Some (of.Mdf given workers)
      → (text : List ℕ) → IsKnown before.told given text → ((program : List Statement) → IsRead text program → ⊥) → (status ≡ 2) ⊎ (status ≡ 6)
  pub soaked : IsQuiet before now → (n workers cap : ℕ) (queue : Queue) → command words ≡ Some (of.Soak n workers cap queue) → (status ≡ 0) ⊎ (status ≡ 6)
