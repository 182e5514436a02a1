-- Which words are a command, and which.
use Rattle.std.specs.Prelude.{ℕ, if◌then◌else◌, List, [], ◌∷◌, Option, None, option_and_then, codes}
use Rattle.std.specs.Str.{bytes_eq}
use Rattle.clap.specs.Words.{App, Row}
use Rattle.ff_words.specs.Arguments.{run_app, check_app, plan_app, mdf_app, dc_app, soak_app}
use Rattle.ff_words.specs.Parsed.{parsed}
use Rattle.ff_words.specs.Rows.{run_of, check_of, plan_of, mdf_of, dc_of, soak_of}
use Rattle.ff_words.specs.declared.command.Command.{Command}

-- the command of one row: the parser takes the words, and the values are within the limits
abbrev pub read_by : App → (List Row → Option Command) → List (List ℕ) → Option Command
read_by app values words = option_and_then values (parsed app words)

-- by the first word, which is the name of a row
abbrev pub command_named : List ℕ → List (List ℕ) → Option Command
command_named name words = if bytes_eq name (codes "run") then read_by run_app run_of words
    else (if bytes_eq name (codes "check") then read_by check_app check_of words
    else (if bytes_eq name (codes "plan") then read_by plan_app plan_of words
    else (if bytes_eq name (codes "mdf") then read_by mdf_app mdf_of words
    else (if bytes_eq name (codes "dc") then read_by dc_app dc_of words
    else (if bytes_eq name (codes "soak") then read_by soak_app soak_of words
    else None)))))

-- the command that words are
abbrev pub command : List (List ℕ) → Option Command
command [] = None
command (name ∷ rest) = command_named name (name ∷ rest)
