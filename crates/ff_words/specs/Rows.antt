-- The values of a command, from what the words give to its arguments.
use Rattle.std.specs.Prelude.{ℕ, Bool, true, false, if◌then◌else◌, List, Option, None, Some, option_and_then, option_map, codes}
use Rattle.std.specs.Option.{option_map_or}
use Rattle.std.specs.Str.{bytes_eq}
use Rattle.clap.specs.Words.{Row, first_of}
use Rattle.ff_plan.specs.declared.kind.Queue.{Queue}
use Rattle.ff_plan.specs.declared.kind.Queue.TheVariants.{Ring, Chain}
use Rattle.ff_words.specs.Numbers.{number_in}
use Rattle.ff_words.specs.declared.command.Command.{Command}
use Rattle.ff_words.specs.declared.command.Command.TheVariants.{Run, Check, Plan, Mdf, Dc, Soak}
use Rattle.ff_words.specs.declared.command.DcRule.{DcRule}
use Rattle.ff_words.specs.declared.command.DcRule.TheVariants.{Fib, Sum, MaxSub, FirstMin, Bracket}
use Rattle.ff_words.specs.declared.command.Way.{Way}
use Rattle.ff_words.specs.declared.command.Way.TheVariants.{Threads, One, Sweep}
use Rattle.ff_words.specs.declared.command.Given.{Given}
use Rattle.ff_words.specs.declared.command.Given.TheVariants as given

-- the number from `least` to `most` in an argument
abbrev pub number_of : List ℕ → ℕ → ℕ → List Row → Option ℕ
number_of name least most rows = option_and_then (number_in least most) (first_of name rows)

-- whether a flag stands: the parser then has the text `true` for it
abbrev pub stands : List ℕ → List Row → Bool
stands name rows = option_map_or (λ text. bytes_eq text (codes "true")) (first_of name rows) false

-- one of a text and a file; both or none is no command
abbrev pub one_given : Option (List ℕ) → Option (List ℕ) → Option Given
one_given (Some text) None = Some (given.Text text)
one_given None (Some file) = Some (given.File file)
one_given _ _ = None

-- one of `[TEXT]` and `--file`
abbrev pub given_of : List Row → Option Given
given_of rows = one_given (first_of (codes "TEXT") rows) (first_of (codes "file") rows)

-- the kind of channels of this name
abbrev pub queue_named : List ℕ → Option Queue
queue_named name = if bytes_eq name (codes "ring") then Some Ring
    else (if bytes_eq name (codes "chain") then Some Chain else None)

-- the kind of channels in `--queue`
abbrev pub queue_of : List Row → Option Queue
queue_of rows = option_and_then queue_named (first_of (codes "queue") rows)

-- the slots of a ring in `--cap`
abbrev pub cap_of : List Row → Option ℕ
cap_of rows = number_of (codes "cap") 1 4096 rows

-- the rule of this name
abbrev pub rule_named : List ℕ → Option DcRule
rule_named name = if bytes_eq name (codes "fib") then Some Fib
    else (if bytes_eq name (codes "sum") then Some Sum
    else (if bytes_eq name (codes "maxsub") then Some MaxSub
    else (if bytes_eq name (codes "firstmin") then Some FirstMin
    else (if bytes_eq name (codes "bracket") then Some Bracket else None))))

-- the operand of a rule: a number for `fib`, and no word for the others
abbrev pub operand : DcRule → Option (List ℕ) → Option (Option ℕ)
operand Fib (Some text) = option_map (λ n. Some n) (number_in 0 1000000 text)
operand Fib None = None
operand _ (Some text) = None
operand _ None = Some None

-- the way of a run, by whether `--one` and `--sweep` stand; both are no command
abbrev pub way_of : Bool → Bool → Option Way
way_of false false = Some Threads
way_of true false = Some One
way_of false true = Some Sweep
way_of true true = None

-- `run`: a text, `--cap`, `--queue`, up to 10,000,000 in `--tasks`, at most one of `--one` and `--sweep`, and `--rejects`
-- where it stands
abbrev pub run_of : List Row → Option Command
run_of rows = option_and_then (λ text. option_and_then (λ cap. option_and_then (λ queue. option_and_then (λ tasks. option_map (λ way.
    Run text cap queue tasks way (first_of (codes "rejects") rows))
    (way_of (stands (codes "one") rows) (stands (codes "sweep") rows)))
    (number_of (codes "tasks") 1 10000000 rows)) (queue_of rows)) (cap_of rows)) (given_of rows)

-- `check`: a text
abbrev pub check_of : List Row → Option Command
check_of rows = option_map (λ text. Check text) (given_of rows)

-- `plan`: a text
abbrev pub plan_of : List Row → Option Command
plan_of rows = option_map (λ text. Plan text) (given_of rows)

-- `mdf`: a text, and up to 64 in `--workers`
abbrev pub mdf_of : List Row → Option Command
mdf_of rows = option_and_then (λ text. option_map (λ workers. Mdf text workers)
    (number_of (codes "workers") 1 64 rows)) (given_of rows)

-- `dc`: a rule, its operand, up to 1,000,000 in `--cut`, and up to 64 in `--workers`
abbrev pub dc_of : List Row → Option Command
dc_of rows = option_and_then (λ rule. option_and_then (λ n. option_and_then (λ cut. option_map (λ workers. Dc rule n cut workers)
    (number_of (codes "workers") 1 64 rows)) (number_of (codes "cut") 1 1000000 rows))
    (operand rule (first_of (codes "N") rows)))
    (option_and_then rule_named (first_of (codes "RULE") rows))

-- `soak`: up to 10,000,000 records, up to 16 in `--workers`, `--cap` and `--queue`
abbrev pub soak_of : List Row → Option Command
soak_of rows = option_and_then (λ n. option_and_then (λ workers. option_and_then (λ cap. option_map (λ queue. Soak n workers cap queue)
    (queue_of rows)) (cap_of rows)) (number_of (codes "workers") 1 16 rows)) (number_of (codes "N") 0 10000000 rows)
