-- A unit of a network as the definitions see it.
use Rattle.ff_steps.specs.NetUnits.{NetState, AsStage, AsDeal, AsMerge, AsOMerge, AsMaster, AsWorker}
use Rattle.ff_steps.specs.declared.net_unit.Part.{Part}
use Rattle.ff_steps.specs.declared.net_unit.Part.TheVariants.{Stage, Deal, ODeal, Merge, OMerge, Master, Worker}

-- by what it is; a deal of an ordered farm is a deal, too
abbrev pub state_of : {N : Type 0} → Part N → NetState N
state_of (Stage u) = AsStage u
state_of (Deal u) = AsDeal u
state_of (ODeal u) = AsDeal u
state_of (Merge u) = AsMerge u
state_of (OMerge u) = AsOMerge u
state_of (Master u) = AsMaster u
state_of (Worker u) = AsWorker u
