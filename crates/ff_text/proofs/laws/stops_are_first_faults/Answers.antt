-- Along the spots.
use Rattle.ff_text.proofs.FirstFault.{first_fault}
use Rattle.ff_text.proofs.laws.stops_are_first_faults.Goals as goal

pub returns : goal.returns
returns c = first_fault
