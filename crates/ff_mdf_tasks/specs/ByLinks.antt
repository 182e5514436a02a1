-- Tasks by the links of their operands, from the answers of the statements that are back.
use Rattle.std.specs.Prelude.{ℕ, Bool, true, ◌&&◌, List, slice_index_or, Option, None, Some, is_some}
use Rattle.ff_prog.specs.Rules.{is_task}
use Rattle.ff_prog.specs.declared.link.Link.{Link}
use Rattle.ff_prog.specs.declared.link.Links.{Links}
use Rattle.ff_prog.specs.declared.op.MdfOp.TheVariants.{Copy}
use Rattle.ff_prog.specs.declared.statement.Operand.{Operand}
use Rattle.ff_prog.specs.declared.statement.Operand.TheVariants as operand
use Rattle.ff_prog.specs.declared.statement.Statement.{Statement}
use Rattle.ff_prog.specs.declared.statement.Statement.TheVariants.{Task, Out}
use Rattle.ff_mdf.specs.Linked.{named}
use Rattle.ff_mdf.specs.declared.value.Value.{Value}
use Rattle.ff_mdf.specs.declared.value.Value.TheVariants.{Num, Bad}
use Rattle.ff_mdf.specs.declared.value.MdfAnswer.{MdfAnswer}
use Rattle.ff_mdf_tasks.specs.declared.task.MdfTask.{MdfTask}

-- the answer of each statement, where it is back
abbrev pub Answers : Type 0
Answers = ℕ → Option MdfAnswer

-- the answer of a statement in a list of them
abbrev pub answer_in : List (Option MdfAnswer) → Answers
answer_in xs k = slice_index_or xs k None

-- what a link leads to
abbrev pub value_linked : Answers → Option Link → Value
value_linked known None = Bad
value_linked known (Some l) = named l.second (known l.task)

-- the value of an operand
abbrev pub operand_value : Answers → Operand → Option Link → Value
operand_value known (operand.Name n) l = value_linked known l
operand_value known (operand.Num x) l = Num x

-- the value of an operand that may not be there
abbrev pub operand_if : Answers → Option Operand → Option Link → Option Value
operand_if known None l = None
operand_if known (Some o) l = Some (operand_value known o l)

-- the task of this number that a statement is
abbrev pub task_linked : ℕ → Answers → Option Statement → Links → MdfTask
task_linked number known (Some (Task first second op a b c)) ls =
    record { number = number; op = op; a = operand_value known a ls.a; b = operand_if known b ls.b; c = operand_if known c ls.c }
task_linked number known (Some (Out names)) ls = record { number = number; op = Copy; a = Bad; b = None; c = None }
task_linked number known None ls = record { number = number; op = Copy; a = Bad; b = None; c = None }

-- whether what a link leads to, where there is one, is back
abbrev pub has_come : Answers → Option Link → Bool
has_come known None = true
has_come known (Some l) = is_some (known l.task)

-- whether a statement is a task and all that its links lead to is back
abbrev pub ready_linked : Answers → Option Statement → Links → Bool
ready_linked known s ls = is_task s && (has_come known ls.a && (has_come known ls.b && has_come known ls.c))
