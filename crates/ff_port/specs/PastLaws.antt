-- A past is longer than what came before its newest element.
use Rattle.std.specs.Prelude.{◌≤◌, ◌∷◌, [], length}
use Rattle.std.proofs.Common.{arith, length-append}
use Rattle.ff_port.specs.declared.past.Last.{Last}
use Rattle.ff_port.specs.declared.past.Last.TheVariants.{Nothing, Noted}
use Rattle.ff_port.specs.declared.past.Past.TheDeep.{deep-Last}
use Rattle.ff_port.specs.Noted.{noted}

pub deep-Last-noted : {E : Type 0} (l : Last E) → deep-Last E l ≤ length (noted l)
deep-Last-noted Nothing = omega arith
deep-Last-noted (Noted x before) = omega (arith, length-append before.value (x.value ∷ []))
