-- What the check of a program answers.
use Rattle.std.specs.Prelude.{◌≡◌, ℕ, suc, if◌then◌else◌, List, position, Option, None, Some}
use Rattle.std.specs.List.{list_any}
use Rattle.ff_prog.specs.declared.fault.ProgFault.{ProgFault}
use Rattle.ff_prog.specs.declared.fault.ProgFault.TheVariants.{Syntax, Rule, TooLong, NoMemory}
use Rattle.ff_prog.specs.declared.statement.Statement.{Statement}
use Rattle.ff_prog.specs.Names.{is_crowded}
use Rattle.ff_prog.specs.Rules.{first_at, is_past_most, reads_unwritten, has_twins, is_out, breaks_out, puts_unwritten}

-- a rule, and the statement named, counted from 1
pub record Broken : Type 0 where
  pub rule : ℕ
  pub statement : ℕ

-- a rule at its first statement, or what holds of the rules behind it
abbrev pub at_rule : ℕ → Option ℕ → Option Broken → Option Broken
at_rule rule (Some k) behind = Some (record { rule = rule; statement = suc k })
at_rule rule None behind = behind

-- rule 5 also wants an `out` statement, and names statement 0 where there is none
abbrev pub at_out : List Statement → Option Broken → Option Broken
at_out ss behind = at_rule 5 (first_at breaks_out ss) (if list_any is_out ss then behind else Some (record { rule = 5; statement = 0 }))

-- the lowest rule that a program breaks, at its first statement
abbrev pub lowest_broken : List Statement → Option Broken
lowest_broken ss =
    at_rule 1 (first_at is_past_most ss)
    (at_rule 2 (first_at is_crowded ss)
    (at_rule 3 (first_at reads_unwritten ss)
    (at_rule 4 (position has_twins ss)
    (at_out ss
    (at_rule 6 (position (puts_unwritten ss) ss) None)))))

-- what a fault says of a program
abbrev pub IsRuleFault : List Statement → ProgFault → Type 0
IsRuleFault ss (Rule rule s) = lowest_broken ss ≡ Some (record { rule = rule; statement = s })
IsRuleFault ss NoMemory = Unit {0}
IsRuleFault ss (Syntax s) = ⊥
IsRuleFault ss TooLong = ⊥
