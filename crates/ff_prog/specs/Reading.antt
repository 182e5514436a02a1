-- What the reader of programs answers.
use Rattle.std.specs.Prelude.{◌≡◌, ℕ, suc, ◌<◌, ◌≤◌, List, ◌∷◌, ◌++◌, map, length, Option, None, Some}
use Rattle.ff_prog.specs.Words.{words, statements}
use Rattle.ff_prog.specs.Grammar.{statement}
use Rattle.ff_prog.specs.declared.fault.ProgFault.{ProgFault}
use Rattle.ff_prog.specs.declared.fault.ProgFault.TheVariants.{Syntax, Rule, TooLong, NoMemory}
use Rattle.ff_prog.specs.declared.statement.Statement.{Statement}

-- pieces, each as the statement that it is, if it is one
abbrev pub read : List (List ℕ) → List (Option Statement)
read pieces = map (λ piece. statement (words piece)) pieces

-- the statement `s`, counted from 1, is none of the grammar, and those before it are
pub record IsFirstFault (read : List (Option Statement)) (s : ℕ) : Type 0 where
  pub before : List Statement
  pub behind : List (Option Statement)
  pub whole : read ≡ map Some before ++ None ∷ behind
  pub at : s ≡ suc (length before)

-- what a fault says of a text
abbrev pub IsReadFault : List ℕ → ProgFault → Type 0
IsReadFault text (Syntax s) = (length text ≤ 65536) × IsFirstFault (read (statements text)) s
IsReadFault text (Rule rule s) = ⊥
IsReadFault text TooLong = 65536 < length text
IsReadFault text NoMemory = Unit {0}
