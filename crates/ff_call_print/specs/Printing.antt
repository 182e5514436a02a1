-- What the commands `check` and `plan` do with a network, at each of their answers.
use Rattle.std.specs.Prelude.{◌≡◌, ℕ, List, [], ◌∷◌, ◌++◌, Option, Result, Ok, Err, OnOk, IfOk, IfErr}
use Rattle.std.specs.Io.KnownBytes.{Appends}
use Rattle.ff_io.specs.Bytes.{AppendsPrefix}
use Rattle.ff_net.specs.Tree.{Tree}
use Rattle.ff_ops.specs.Operation.{OpState}
use Rattle.ff_plan.specs.Plans.{rows_of}
use Rattle.ff_text.specs.NetPrinting.{printed_described}
use Rattle.ff_text.specs.PlanText.{printed_units}
use Rattle.ff_call.specs.Counts.{Output, count_by, raised}
use Rattle.ff_call.specs.Outside.{Outside, ReadsNothing, StartsNothing}
use Rattle.ff_call.specs.Texts.{version}
use Rattle.ff_call.specs.declared.fault.Fault.{Fault}
use Rattle.ff_call.specs.declared.fault.Fault.TheVariants.{Write, NoMemory}
use Rattle.ff_call_print.specs.declared.print.Form.{Form}
use Rattle.ff_call_print.specs.declared.print.Form.TheVariants.{Network, Plan}

-- what is written of a network: its printed form and a newline, or the lines of its plan
abbrev pub printed : Form → Tree OpState → List ℕ
printed Network t = printed_described version t ++ 10 ∷ []
printed Plan t = printed_units t 0 (rows_of t)

-- what the output took of these bytes where a print ended so: only a write that failed may leave a part of them. A print has no
-- other cause
abbrev pub LeavesPart : Fault → Option (List ℕ) → Option (List ℕ) → List ℕ → Type 0
LeavesPart Write before now bytes = AppendsPrefix before now bytes
LeavesPart NoMemory before now bytes = now ≡ before
LeavesPart _ before now bytes = ⊥

-- a text was written with this answer: all of it, a part or nothing; no record is rejected
pub record Prints (text : List ℕ) (before now : Option (List ℕ)) (faults faults_now : ℕ) (answer : Result ℕ Fault) : Type 0 where
  pub none : IfOk answer (λ n. n ≡ 0)
  pub all : OnOk answer (Appends before now text)
  pub part : IfErr answer (λ fault. LeavesPart fault before now text)
  pub counts : faults_now ≡ count_by (raised Output) faults answer

-- how the print of a network that keeps all rules ends
abbrev pub Printed : Form → Tree OpState → Outside → Outside → Result ℕ Fault → Type 0
Printed form t before now (Ok n) =
    (n ≡ 0) × Appends before.taken now.taken (printed form t) × ReadsNothing before now × StartsNothing before now
Printed form t before now (Err fault) =
    LeavesPart fault before.taken now.taken (printed form t) × ReadsNothing before now × StartsNothing before now
