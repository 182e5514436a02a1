-- The arguments of each command, as the parser has them.
use Rattle.std.specs.Prelude.{ℕ, true, List, [], ◌∷◌, Some, codes}
use Rattle.clap.specs.Words.{App, Rule, new_app, new_rule, with_rule}
use Rattle.clap.specs.declared.builder.ArgAction.TheVariants.{SetTrue}

-- `[NAME]`: a word that stands without a name, in its place
abbrev pub word : List ℕ → Rule
word name = new_rule name

-- `NAME`: the same, and the command wants it
abbrev pub wanted : List ℕ → Rule
wanted name = record (new_rule name) { required = true }

-- `--name VALUE`
abbrev pub option : List ℕ → Rule
option name = record (new_rule name) { long = Some name }

-- `--name VALUE`, with the value that it has where it isn't given
abbrev pub option_or : List ℕ → List ℕ → Rule
option_or name value = record (option name) { defaults = value ∷ [] }

-- `--name`
abbrev pub flag : List ℕ → Rule
flag name = record (option name) { action = Some SetTrue }

-- `-f FILE` or `--file FILE`
abbrev pub file : Rule
file = record (option (codes "file")) { short = Some 102 }

-- a command of this name with no arguments yet but `[TEXT]` and the file
abbrev pub text_app : List ℕ → App
text_app name = with_rule (with_rule (new_app name) (word (codes "TEXT"))) file

-- the size of the channels and their kind
abbrev pub with_channels : App → App
with_channels app = with_rule (with_rule app (option_or (codes "cap") (codes "512"))) (option_or (codes "queue") (codes "ring"))

-- the ways of a run on one thread
abbrev pub with_ways : App → App
with_ways app = with_rule (with_rule app (flag (codes "one"))) (flag (codes "sweep"))

-- how many workers
abbrev pub with_workers : App → App
with_workers app = with_rule app (option_or (codes "workers") (codes "4"))

-- `run [TEXT] [-f FILE] [--cap N] [--queue Q] [--tasks N] [--rejects FILE] [--one] [--sweep]`
abbrev pub run_app : App
run_app = with_ways
    (with_rule
    (with_rule (with_channels (text_app (codes "run"))) (option_or (codes "tasks") (codes "1000000")))
    (option (codes "rejects")))

-- `check [TEXT] [-f FILE]`
abbrev pub check_app : App
check_app = text_app (codes "check")

-- `plan [TEXT] [-f FILE]`
abbrev pub plan_app : App
plan_app = text_app (codes "plan")

-- `mdf [TEXT] [-f FILE] [--workers N]`
abbrev pub mdf_app : App
mdf_app = with_workers (text_app (codes "mdf"))

-- `dc RULE [N] [--cut N] [--workers N]`
abbrev pub dc_app : App
dc_app = with_workers
    (with_rule
    (with_rule (with_rule (new_app (codes "dc")) (wanted (codes "RULE"))) (word (codes "N")))
    (option_or (codes "cut") (codes "16")))

-- `soak N [--workers N] [--cap N] [--queue Q]`
abbrev pub soak_app : App
soak_app = with_channels (with_workers (with_rule (new_app (codes "soak")) (wanted (codes "N"))))
