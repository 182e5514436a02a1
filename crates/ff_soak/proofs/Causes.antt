-- What faults are told as.
use Rattle.std.proofs.Common.{◌≡◌, ℕ, Err, refl}
use Rattle.ff_engine.specs.Runs.{refused_count as net_refused_count}
use Rattle.ff_engine.specs.declared.fault.NetFault.{NetFault}
use Rattle.ff_engine.specs.declared.fault.NetFault.TheVariants.{Refused, Run}
use Rattle.ff_soak.specs.Faults.{cause_of, refused_count}

-- a refused start is told as one, and nothing else is
pub refused_count-cause_of : (A B : Type 0) (n : ℕ) (fault : NetFault) → net_refused_count {A = A} n (Err fault) ≡ refused_count {A = B} n (Err (cause_of fault))
refused_count-cause_of A B n Refused = refl
refused_count-cause_of A B n (Run fault) = refl
