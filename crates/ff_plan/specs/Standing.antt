-- Where the networks of units stand.
use Rattle.std.specs.Prelude.{◌≡◌, Some}
use Rattle.std.specs.List.{AllByRecursion}
use Rattle.ff_net.specs.At.{net_at}
use Rattle.ff_net.specs.Tree.{Tree}
use Rattle.ff_plan.specs.Laying.{units_of}
use Rattle.ff_plan.specs.Rows.{Laid}

-- the network of a unit is what stands at its place in this network
abbrev pub StandsIn : {N : Type 0} → Tree N → Laid N → Type 0
StandsIn whole l = net_at whole l.row.place ≡ Some l.net

-- so it is with each unit of a network
abbrev pub NetsAtPlaces : {N : Type 0} → Tree N → Type 0
NetsAtPlaces t = AllByRecursion (StandsIn t) (units_of t)
