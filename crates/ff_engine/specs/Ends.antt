-- How a unit ended.
use Rattle.std.specs.Prelude.{Bool, true, false, Option, None, Some}
use Rattle.ff_port.specs.declared.answers.End.{End}
use Rattle.ff_port.specs.declared.answers.End.TheVariants.{Eos, Abort, Memory}

-- whether it has ended by Eos
abbrev pub ends_by_eos : Option End → Bool
ends_by_eos None = false
ends_by_eos (Some Eos) = true
ends_by_eos (Some Abort) = false
ends_by_eos (Some Memory) = false
