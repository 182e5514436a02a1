-- Values by the links of operands, from the answers of earlier statements.
use Rattle.std.specs.Prelude.{Bool, if◌then◌else◌, List, slice_get, Option, None, Some}
use Rattle.ff_prog.specs.declared.link.Link.{Link}
use Rattle.ff_prog.specs.declared.link.Links.{Links}
use Rattle.ff_prog.specs.declared.statement.Operand.{Operand}
use Rattle.ff_prog.specs.declared.statement.Operand.TheVariants as operand
use Rattle.ff_prog.specs.declared.statement.Statement.{Statement}
use Rattle.ff_prog.specs.declared.statement.Statement.TheVariants.{Task, Out}
use Rattle.ff_mdf.specs.Values.{applied, or_bad}
use Rattle.ff_mdf.specs.declared.value.Value.{Value}
use Rattle.ff_mdf.specs.declared.value.Value.TheVariants.{Num, Bad}
use Rattle.ff_mdf.specs.declared.value.MdfAnswer.{MdfAnswer}

-- what an answer gives to the first or the second name
abbrev pub named : Bool → Option MdfAnswer → Value
named second None = Bad
named second (Some x) = if second then or_bad x.second else x.first

-- what a link leads to
abbrev pub linked : List MdfAnswer → Option Link → Value
linked xs None = Bad
linked xs (Some l) = named l.second (slice_get xs l.task)

-- the value of an operand
abbrev pub linked_value : List MdfAnswer → Operand → Option Link → Value
linked_value xs (operand.Name n) l = linked xs l
linked_value xs (operand.Num x) l = Num x

-- the value of an operand that may not be there
abbrev pub linked_if : List MdfAnswer → Option Operand → Option Link → Option Value
linked_if xs None l = None
linked_if xs (Some o) l = Some (linked_value xs o l)

-- what a statement gives
abbrev pub linked_answer : List MdfAnswer → Option Statement → Links → MdfAnswer
linked_answer xs (Some (Task first second op a b c)) ls = applied op (linked_value xs a ls.a) (linked_if xs b ls.b) (linked_if xs c ls.c)
linked_answer xs (Some (Out names)) ls = record { first = Bad; second = None }
linked_answer xs None ls = record { first = Bad; second = None }
