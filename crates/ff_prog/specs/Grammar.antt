-- Which words are a statement, and which.
use Rattle.std.specs.Prelude.{ℕ, Bool, if◌then◌else◌, List, [], ◌∷◌, Option, None, Some, option_map, option_and_then, codes}
use Rattle.std.specs.Str.{bytes_eq}
use Rattle.ff_prog.specs.Words.{is_name, plain_number}
use Rattle.ff_prog.specs.declared.op.MdfOp.{MdfOp}
use Rattle.ff_prog.specs.declared.op.MdfOp.TheVariants.{Copy, Neg, Add, Sub, Mul, Div, Rem, Min, Max, Pick, DivMod}
use Rattle.ff_prog.specs.declared.statement.Operand.{Operand}
use Rattle.ff_prog.specs.declared.statement.Operand.TheVariants.{Name, Num}
use Rattle.ff_prog.specs.declared.operands.Operands.{Operands}
use Rattle.ff_prog.specs.declared.operands.Operands.TheVariants.{One, Two, Three}
use Rattle.ff_prog.specs.declared.operands.Targets.{Targets}
use Rattle.ff_prog.specs.declared.operands.Targets.TheVariants as targets
use Rattle.ff_prog.specs.declared.statement.Statement.{Statement}
use Rattle.ff_prog.specs.declared.statement.Statement.TheVariants.{Task, Out}

-- the operation with this name
abbrev pub op_named : List ℕ → Option MdfOp
op_named w = if bytes_eq w (codes "copy") then Some Copy
    else (if bytes_eq w (codes "neg") then Some Neg
    else (if bytes_eq w (codes "add") then Some Add
    else (if bytes_eq w (codes "sub") then Some Sub
    else (if bytes_eq w (codes "mul") then Some Mul
    else (if bytes_eq w (codes "div") then Some Div
    else (if bytes_eq w (codes "rem") then Some Rem
    else (if bytes_eq w (codes "min") then Some Min
    else (if bytes_eq w (codes "max") then Some Max
    else (if bytes_eq w (codes "pick") then Some Pick
    else (if bytes_eq w (codes "divmod") then Some DivMod
    else None))))))))))

-- the name that a word is
abbrev pub name : List ℕ → Option (List ℕ)
name w = if is_name w then Some w else None

-- the operand that a word is
abbrev pub operand : List ℕ → Option Operand
operand w = if is_name w then Some (Name w) else option_map (λ n. Num n) (plain_number w)

-- the names that words are, if each is one
abbrev pub names : List (List ℕ) → Option (List (List ℕ))
names [] = Some []
names (w ∷ ws) = option_and_then (λ n. option_map (λ ns. n ∷ ns) (names ws)) (name w)

-- behind three operands no word may stand
abbrev pub third : Operand → Operand → List (List ℕ) → Operand → Option Operands
third a b [] c = Some (Three a b c)
third a b (w ∷ ws) c = None

-- behind two operands
abbrev pub second : Operand → List (List ℕ) → Operand → Option Operands
second a [] b = Some (Two a b)
second a (w ∷ ws) b = option_and_then (third a b ws) (operand w)

-- behind one operand
abbrev pub first : List (List ℕ) → Operand → Option Operands
first [] a = Some (One a)
first (w ∷ ws) a = option_and_then (second a ws) (operand w)

-- the one to three operands that words are
abbrev pub operands : List (List ℕ) → Option Operands
operands [] = None
operands (w ∷ ws) = option_and_then (first ws) (operand w)

-- the target that a word is
abbrev pub one_target : List ℕ → Option Targets
one_target w = option_map (λ n. targets.One n) (name w)

-- the targets that two words are
abbrev pub two_targets : List ℕ → List ℕ → Option Targets
two_targets w v = option_and_then (λ n. option_map (λ m. targets.Two n m) (name v)) (name w)

-- a task from its parts, where the operation has so many names and operands
abbrev pub made : MdfOp → Targets → Operands → Option Statement
made Copy (targets.One n) (One a) = Some (Task n None Copy a None None)
made Neg (targets.One n) (One a) = Some (Task n None Neg a None None)
made Add (targets.One n) (Two a b) = Some (Task n None Add a (Some b) None)
made Sub (targets.One n) (Two a b) = Some (Task n None Sub a (Some b) None)
made Mul (targets.One n) (Two a b) = Some (Task n None Mul a (Some b) None)
made Div (targets.One n) (Two a b) = Some (Task n None Div a (Some b) None)
made Rem (targets.One n) (Two a b) = Some (Task n None Rem a (Some b) None)
made Min (targets.One n) (Two a b) = Some (Task n None Min a (Some b) None)
made Max (targets.One n) (Two a b) = Some (Task n None Max a (Some b) None)
made Pick (targets.One n) (Three a b c) = Some (Task n None Pick a (Some b) (Some c))
made DivMod (targets.Two n m) (Two a b) = Some (Task n (Some m) DivMod a (Some b) None)
made _ _ _ = None

-- a task from its targets and what stands behind its `=`: an operation and its operands
abbrev pub call : List (List ℕ) → Targets → Option Statement
call [] t = None
call (w ∷ ws) t = option_and_then (λ op. option_and_then (made op t) (operands ws)) (op_named w)

-- whether a word is `=`
abbrev pub is_equal : List ℕ → Bool
is_equal w = bytes_eq w (codes "=")

-- a task from behind its two first words: `=` and the rest
abbrev pub task_of_two : List ℕ → List ℕ → List (List ℕ) → Option Statement
task_of_two n m [] = None
task_of_two n m (w ∷ ws) = if is_equal w then option_and_then (call ws) (two_targets n m) else None

-- a task from behind its first word: `=` or a second name, and the rest
abbrev pub task : List ℕ → List (List ℕ) → Option Statement
task n [] = None
task n (w ∷ ws) = if is_equal w then option_and_then (call ws) (one_target n) else task_of_two n w ws

-- `out` with one name or more
abbrev pub out : List (List ℕ) → Option Statement
out [] = None
out (w ∷ ws) = option_map (λ ns. Out ns) (names (w ∷ ws))

-- the statement whose words these are
abbrev pub statement : List (List ℕ) → Option Statement
statement [] = None
statement (w ∷ ws) = if bytes_eq w (codes "out") then out ws else task w ws
