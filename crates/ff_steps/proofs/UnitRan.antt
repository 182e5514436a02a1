-- The run of a unit of a sound core.
use Rattle.std.proofs.Common.{ℕ, ◌<◌, length, get_or, subst, arith}
use Rattle.ff_unit.specs.Units.{Doing, Ran}
use Rattle.ff_steps.specs.Core.{CoreState, gots_of, puts_of, IsSound}
use Rattle.ff_steps.specs.Parties.{PartyRan}
use Rattle.ff_steps.proofs.PartyAt.{length-parties, party-unit}

pub Ran-unit : {U : Type 0} (b : Doing U) (c : CoreState U) → IsSound b c → (i : ℕ) (e : U) → i < length c.units → Ran b (get_or c.units i e) (gots_of c i) (puts_of c i)
Ran-unit b c sound i e low =
    subst (λ q. PartyRan b c.input q (gots_of c i) (puts_of c i)) (party-unit c i e low) (sound.ran i (omega (arith, low, length-parties c)))
