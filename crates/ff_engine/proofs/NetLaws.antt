-- The units of a network keep the laws of units.
use Rattle.ff_node.specs.Behaviour.{Behaviour, KeepsKind}
use Rattle.ff_node.specs.Classes.{ClassLaw}
use Rattle.ff_unit.specs.Units.{IsUnit}
use Rattle.ff_steps.specs.NetUnitLaws.{IsUnit-nodes}
use Rattle.ff_steps.specs.NetUnits.{net_does}

pub IsUnit-laws : {N : Type 0} (b : Behaviour N) → KeepsKind b → ((o : N) → ClassLaw b o (b.class o)) → IsUnit (net_does b)
IsUnit-laws b kind law = IsUnit-nodes b kind law
