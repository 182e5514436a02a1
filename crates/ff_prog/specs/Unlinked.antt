-- Which operands are names that no earlier task writes, by their links.
use Rattle.std.specs.Prelude.{Bool, false, ◌||◌, Option, None, Some, is_none}
use Rattle.ff_prog.specs.declared.link.Link.{Link}
use Rattle.ff_prog.specs.declared.link.Links.{Links}
use Rattle.ff_prog.specs.declared.statement.Operand.{Operand}
use Rattle.ff_prog.specs.declared.statement.Operand.TheVariants as operand
use Rattle.ff_prog.specs.declared.statement.Statement.{Statement}
use Rattle.ff_prog.specs.declared.statement.Statement.TheVariants.{Task, Out}

-- whether an operand is a name without a link
abbrev pub is_unlinked : Operand → Option Link → Bool
is_unlinked (operand.Name n) l = is_none l
is_unlinked (operand.Num x) l = false

-- whether there is an operand that is such a name
abbrev pub is_unlinked_if : Option Operand → Option Link → Bool
is_unlinked_if None l = false
is_unlinked_if (Some o) l = is_unlinked o l

-- whether an operand of a statement is such a name
abbrev pub has_unlinked : Option Statement → Links → Bool
has_unlinked (Some (Task first second op a b c)) ls = is_unlinked a ls.a || (is_unlinked_if b ls.b || is_unlinked_if c ls.c)
has_unlinked (Some (Out names)) ls = false
has_unlinked None ls = false
