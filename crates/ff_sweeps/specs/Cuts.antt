-- Units that were cut off.
use Rattle.std.specs.Prelude.{Bool, true, false}
use Rattle.ff_port.specs.declared.answers.End.{End}
use Rattle.ff_port.specs.declared.answers.End.TheVariants.{Eos, Abort, Memory}
use Rattle.ff_unit.specs.declared.mode.Mode.{Mode}
use Rattle.ff_unit.specs.declared.mode.Mode.TheVariants.{Live, Shut, Cut}
use Rattle.ff_steps.specs.NetUnits.{NetState, AsStage, AsDeal, AsMerge, AsOMerge, AsMaster, AsWorker}

abbrev pub is_cut_mode : Mode → Bool
is_cut_mode Live = false
is_cut_mode Shut = false
is_cut_mode Cut = true

abbrev pub is_memory : End → Bool
is_memory Eos = false
is_memory Abort = false
is_memory Memory = true

-- whether a unit was cut off: it won't be refused memory any more
abbrev pub is_cut : {N : Type 0} → NetState N → Bool
is_cut (AsStage u) = is_cut_mode u.mode
is_cut (AsDeal u) = is_memory u.end
is_cut (AsMerge u) = is_memory u.end
is_cut (AsOMerge u) = is_cut_mode u.mode
is_cut (AsMaster u) = false
is_cut (AsWorker u) = false

-- a unit that isn't one of a wrap
abbrev pub IsPlainUnit : {N : Type 0} → NetState N → Type 0
IsPlainUnit (AsStage u) = Unit {0}
IsPlainUnit (AsDeal u) = Unit {0}
IsPlainUnit (AsMerge u) = Unit {0}
IsPlainUnit (AsOMerge u) = Unit {0}
IsPlainUnit (AsMaster u) = ⊥
IsPlainUnit (AsWorker u) = ⊥
