-- What a run answers whose threads were joined.
use Rattle.std.specs.Prelude.{◌≡◌, Bool, true, false, List, sum_by, Option, Result, Ok, Err}
use Rattle.std.specs.List.{flat_map, list_all}
use Rattle.ff_rec.specs.Counts.{counted}
use Rattle.ff_port.specs.declared.answers.End.{End}
use Rattle.ff_stream.specs.Endings.{halted}
use Rattle.ff_stream.specs.declared.ending.Report.{Report}
use Rattle.ff_stream.specs.declared.fault.Halt.{Halt}
use Rattle.ff_stream.specs.declared.fault.RunFault.{RunFault}
use Rattle.ff_stream.specs.declared.fault.RunFault.TheVariants.{Tasks, Write, NoMemory}
use Rattle.ff_unit.specs.Units.{Doing, end_of}
use Rattle.ff_engine.specs.Ends.{ends_by_eos}

-- the stream and each unit ended by Eos, and whether a unit is over its limit of tasks is this
pub record IsOut {U : Type 0} (d : Doing U) (end : Option End) (units : List U) (over is_over : Bool) : Type 0 where
  pub stream : ends_by_eos end ≡ true
  pub units_ended : list_all (λ u. ends_by_eos (end_of d u)) units ≡ true
  pub over_is : over ≡ is_over

-- so they ended, with none over its limit, and the report tells what they rejected
pub record IsWhole {U : Type 0} (d : Doing U) (end : Option End) (over : Bool) (units : List U) (report : Report) : Type 0 where
  pub out : IsOut d end units over false
  pub rejected : report.rejected ≡ counted (sum_by d.rejects units)
  pub kept : report.kept ≡ flat_map d.kept units

-- By whether all that came was printed. Exactly where all ended and a unit is over its limit, that is told. Where memory was short for a
-- unit or the report, there is none.
abbrev pub Concludes : {A U : Type 0} → Doing U → Result A Halt → Option End → Bool → List U → Result Report RunFault → Type 0
Concludes d (Err halt) end over units answer = answer ≡ Err (halted halt)
Concludes d (Ok a) end over units (Ok report) = IsWhole d end over units report
Concludes d (Ok a) end over units (Err Tasks) = IsOut d end units over true
Concludes d (Ok a) end over units (Err Write) = ⊥
Concludes d (Ok a) end over units (Err NoMemory) = ¬ IsOut d end units over true
