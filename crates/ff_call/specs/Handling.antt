-- What a command does that is given a text: nothing where that is at fault, and else something with its network.
use Rattle.std.specs.Prelude.{◌≡◌, ℕ, ◌⊎◌, Result, Err}
use Rattle.ff_net.specs.Tree.{Tree}
use Rattle.ff_ops.specs.Operation.{OpState}
use Rattle.ff_call.specs.Outside.{Outside, IsUntouched}
use Rattle.ff_call.specs.Texts.{IsGiven, IsGivenFault}
use Rattle.ff_call.specs.declared.fault.Fault.{Fault}
use Rattle.ff_words.specs.declared.command.Given.{Given}

-- the text that is given is at fault, and nothing else was done
pub record IsRefusal (given : Given) (before now : Outside) (answer : Result ℕ Fault) : Type 0 where
  pub cause : Fault
  pub is : answer ≡ Err cause
  pub of_given : IsGivenFault before.told given cause
  pub untouched : IsUntouched before now

-- it spells a network that keeps all rules, with which this was done
pub record IsWork (given : Given) (Done : Tree OpState → Outside → Outside → Result ℕ Fault → Type 0)
    (before now : Outside) (answer : Result ℕ Fault) : Type 0 where
  pub net : Tree OpState
  pub spelled : IsGiven before.told given net
  pub done : Done net before now answer

-- one of the two
abbrev pub Handled : Given → (Tree OpState → Outside → Outside → Result ℕ Fault → Type 0)
    → Outside → Outside → Result ℕ Fault → Type 0
Handled given Done before now answer =
    IsRefusal given before now answer ⊎ IsWork given Done before now answer
