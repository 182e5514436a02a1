-- What a call says on its second sink.
use Rattle.std.specs.Prelude.{◌≡◌, ℕ, ◌==◌, if◌then◌else◌, ◌⊎◌, List, [], ◌∷◌, ◌++◌, Option, Result, Ok, Err, OnOk, codes}
use Rattle.std.specs.Fmt.{decimal}
use Rattle.std.specs.Io.KnownBytes.{Appends}
use Rattle.std.specs.List.{flat_map}
use Rattle.ff_io.specs.Bytes.{AppendsPrefix}
use Rattle.ff_io.specs.Faults.{count_after}
use Rattle.ff_rec.specs.Counts.{more}
use Rattle.ff_rec.specs.declared.fault.LineFault.{LineFault}
use Rattle.ff_rec.specs.declared.fault.LineFault.TheVariants.{TooLong, TooManyFields, InputTooLong}
use Rattle.ff_text.specs.declared.fault.TextKind.{TextKind}
use Rattle.ff_text.specs.declared.fault.TextKind.TheVariants.{BadByte, BadToken, UnknownName, Range, Deep, End, Large, TakenName}
use Rattle.ff_call.specs.Statuses.{rejected_by}
use Rattle.ff_call.specs.declared.fault.Fault.{Fault}
use Rattle.ff_call.specs.declared.fault.Fault.TheVariants as cause

-- which limit an input passes, and on which line
abbrev pub line_message : LineFault → List ℕ
line_message (TooLong n) = codes "ffrun: line " ++ decimal n ++ codes ": too long\n"
line_message (TooManyFields n) = codes "ffrun: line " ++ decimal n ++ codes ": too many fields\n"
line_message InputTooLong = codes "ffrun: input too long\n"

-- what is wrong with a text at its first fault
abbrev pub kind_name : TextKind → List ℕ
kind_name BadByte = codes "bad byte"
kind_name BadToken = codes "unexpected token"
kind_name UnknownName = codes "unknown name"
kind_name Range = codes "out of range"
kind_name Deep = codes "too deep"
kind_name End = codes "unexpected end"
kind_name Large = codes "too large"
kind_name TakenName = codes "name taken"

-- what is wrong at a byte
abbrev pub byte_message : ℕ → List ℕ → List ℕ
byte_message at name = codes "ffrun: byte " ++ decimal at ++ codes ": " ++ (name ++ codes "\n")

-- child numbers, each behind a dot
abbrev pub steps_text : List ℕ → List ℕ
steps_text ks = flat_map (λ k. 46 ∷ decimal k) ks

-- a place in a network: its child numbers with dots between them, and `top` for the whole network
abbrev pub place_text : List ℕ → List ℕ
place_text [] = codes "top"
place_text (k ∷ ks) = decimal k ++ steps_text ks

-- the rule that a network breaks, and where
abbrev pub rule_message : ℕ → List ℕ → List ℕ
rule_message rule place =
    codes "ffrun: rule N" ++ decimal rule ++ codes " at " ++ place_text place ++ codes "\n"

-- the statement that is none of the grammar
abbrev pub statement_message : ℕ → List ℕ
statement_message statement = codes "ffrun: statement " ++ decimal statement ++ codes ": syntax\n"

-- the rule that a program breaks, and at which statement
abbrev pub program_message : ℕ → ℕ → List ℕ
program_message rule statement =
    (codes "ffrun: statement " ++ decimal statement ++ codes ": rule M") ++ (codes "" ++ decimal rule ++ codes "\n")

-- what is said where memory ran out
abbrev pub memory_message : List ℕ
memory_message = codes "ffrun: out of memory\n"

-- the message of each fault, with the newline at its end
abbrev pub message : Fault → List ℕ
message cause.Usage = codes "ffrun: usage: run, check, plan, mdf, dc or soak\n"
message cause.NotBuilt = codes "ffrun: not built\n"
message (cause.File name) = codes "ffrun: cannot read " ++ name ++ codes "\n"
message cause.TooLong = codes "ffrun: text too long\n"
message (cause.BadText at kind) = byte_message at (kind_name kind)
message (cause.BrokenRule broken) = rule_message broken.rule broken.path
message (cause.BadStatement statement) = statement_message statement
message (cause.BrokenProgram rule statement) = program_message rule statement
message cause.NoSweep = codes "ffrun: no sweep for this network\n"
message cause.Refused = codes "ffrun: a thread was refused\n"
message (cause.Tasks most) = codes "ffrun: more than " ++ decimal most ++ codes " tasks\n"
message (cause.Line passed rejected) = line_message passed
message (cause.Read rejected) = codes "ffrun: read fault\n"
message cause.Write = codes "ffrun: write fault\n"
message (cause.Rejects name rejected) = codes "ffrun: cannot write " ++ name ++ codes "\n"
message cause.NoMemory = memory_message

-- the line that tells how many records were rejected, if any was
abbrev pub rejected_line : ℕ → List ℕ
rejected_line n = if n == 0 then [] else codes "ffrun: " ++ decimal n ++ codes " rejected\n"

-- all that is said: the message of a fault, and behind it the line of rejected records
abbrev pub said : Result ℕ Fault → List ℕ
said (Ok rejected) = rejected_line rejected
said (Err fault) = message fault ++ rejected_line (rejected_by fault)

-- Bytes were written with this answer: all of them, or a prefix where it failed, and then the count of faults rose by one.
pub record Writes {A E : Type 0} (before now : Option (List ℕ)) (faults faults_now : ℕ) (bytes : List ℕ) (answer : Result A E) : Type 0 where
  pub all : OnOk answer (Appends before now bytes)
  pub front : AppendsPrefix before now bytes
  pub counts : faults_now ≡ count_after faults answer

-- a sink took all these bytes, or a prefix of them where it failed once
abbrev pub Tells : Option (List ℕ) → Option (List ℕ) → ℕ → ℕ → List ℕ → Type 0
Tells before now faults faults_now bytes =
    (Appends before now bytes × (faults_now ≡ faults))
    ⊎ (AppendsPrefix before now bytes × (faults_now ≡ more faults))
