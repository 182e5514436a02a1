-- The faults that stand for others.
use Rattle.ff_spawn.specs.declared.fault.Denial.{Denial}
use Rattle.ff_spawn.specs.declared.fault.Denial.TheVariants.{Refused, NoMemory}
use Rattle.ff_stream.specs.declared.fault.RunFault.TheVariants.{NoMemory as RunNoMemory}
use Rattle.ff_engine.specs.declared.fault.NetFault.{NetFault}
use Rattle.ff_engine.specs.declared.fault.NetFault.TheVariants.{Refused as NetRefused, Run}

-- a start that wasn't made
abbrev pub denied : Denial → NetFault
denied Refused = NetRefused
denied NoMemory = Run RunNoMemory
