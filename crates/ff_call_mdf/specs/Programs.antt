-- The program of the text that the command is given, in its words or by a file.
use Rattle.std.specs.Prelude.{◌≡◌, ℕ, ◌<◌, ◌≤◌, List, map, length, Option, None, Some}
use Rattle.ff_io.specs.Files.{Holdings}
use Rattle.ff_rec.specs.declared.limits.TheConstants.{LONGEST_TEXT}
use Rattle.ff_prog.specs.Checking.{lowest_broken}
use Rattle.ff_prog.specs.Reading.{IsReadFault, read}
use Rattle.ff_prog.specs.Words.{statements}
use Rattle.ff_prog.specs.declared.fault.ProgFault.{ProgFault}
use Rattle.ff_prog.specs.declared.fault.ProgFault.TheVariants as of
use Rattle.ff_prog.specs.declared.statement.Statement.{Statement}
use Rattle.ff_call.specs.Texts.{IsText, IsLong}
use Rattle.ff_call.specs.declared.fault.Fault.{Fault}
use Rattle.ff_call.specs.declared.fault.Fault.TheVariants.{File, TooLong, BadStatement, BrokenProgram, NoMemory}
use Rattle.ff_words.specs.declared.command.Given.{Given}
use Rattle.ff_words.specs.declared.command.Given.TheVariants as source

-- the statements of a text that isn't too long are those of this program, which keeps all rules
pub record IsRead (text : List ℕ) (p : List Statement) : Type 0 where
  pub short : length text ≤ LONGEST_TEXT
  pub spelled : read (statements text) ≡ map Some p
  pub kept : lowest_broken p ≡ None

-- the text that is given is that of this program
pub record IsProgram (told : Option Holdings) (given : Given) (p : List Statement) : Type 0 where
  pub text : List ℕ
  pub is_text : IsText told given text
  pub is_read : IsRead text p

-- the statements of a text are those of a program that breaks this rule, the lowest, first at this statement
pub record Breaks (text : List ℕ) (rule statement : ℕ) : Type 0 where
  pub program : List Statement
  pub spelled : read (statements text) ≡ map Some program
  pub breaks : lowest_broken program ≡ Some (record { rule = rule; statement = statement })

-- when each fault of a text comes
abbrev pub IsTextFault : List ℕ → Fault → Type 0
IsTextFault text TooLong = LONGEST_TEXT < length text
IsTextFault text (BadStatement s) = IsReadFault text (of.Syntax s)
IsTextFault text (BrokenProgram rule s) = Breaks text rule s
IsTextFault text NoMemory = Unit {0}
IsTextFault text _ = ⊥

-- the text that is given has this fault
pub record IsAtFault (told : Option Holdings) (given : Given) (fault : Fault) : Type 0 where
  pub text : List ℕ
  pub is_text : IsText told given text
  pub of_text : IsTextFault text fault

-- when each fault of the text that is given comes
abbrev pub IsProgramFault : Option Holdings → Given → Fault → Type 0
IsProgramFault told given (File name) = given ≡ source.File name
IsProgramFault told given TooLong = IsLong told given
IsProgramFault told given (BadStatement s) = IsAtFault told given (BadStatement s)
IsProgramFault told given (BrokenProgram rule s) = IsAtFault told given (BrokenProgram rule s)
IsProgramFault told given NoMemory = Unit {0}
IsProgramFault told given _ = ⊥

-- the cause that a fault of a text is
abbrev pub told_as : ProgFault → Fault
told_as (of.Syntax s) = BadStatement s
told_as (of.Rule rule s) = BrokenProgram rule s
told_as of.TooLong = TooLong
told_as of.NoMemory = NoMemory
