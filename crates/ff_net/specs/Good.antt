-- What the rules of networks give to those that reason about networks.
use Rattle.std.specs.Prelude.{◌≡◌, ◌≢◌, ℕ, ◌≤◌, ◌⊎◌, true, false}
use Rattle.ff_node.specs.declared.class.Class.TheVariants.{Plain, Ordered, Keyed}
use Rattle.ff_node.specs.Behaviour.{Behaviour}
use Rattle.ff_net.specs.declared.net.Route.{Route}
use Rattle.ff_net.specs.declared.net.Route.TheVariants.{By}
use Rattle.ff_net.specs.Tree.{Tree, Trees, Leaf, Pipe, Comb, Farm, OFarm, A2a, Wrap, none, more}
use Rattle.ff_net.specs.Counts.{count, depth, units, edges}
use Rattle.ff_net.specs.Forms.{is_ordered, has_wrap}
use Rattle.ff_net.specs.RuleTests.{is_leaf, is_node, is_pipeline, is_wrap}
use Rattle.ff_net.specs.Limits.{most_depth, most_parts, most_units, most_edges}
use Rattle.ff_net.specs.declared.net.Version.{Version}

-- a number of parts, of workers or of a set
abbrev pub InRange : ℕ → Type 0
InRange n = (1 ≤ n) × (n ≤ most_parts)

abbrev mutual
  -- all leaves are Plain
  pub ArePlain : {N : Type 0} → Behaviour N → Tree N → Type 0
  ArePlain b (Leaf o) = b.class o ≡ Plain
  ArePlain b (Pipe ts) = EachPlain b ts
  ArePlain b (Comb ts) = EachPlain b ts
  ArePlain b (Farm n s w) = ArePlain b w
  ArePlain b (OFarm n s w) = ArePlain b w
  ArePlain b (A2a n l r m t) = ArePlain b l × ArePlain b t
  ArePlain b (Wrap n w p) = ArePlain b w

  pub EachPlain : {N : Type 0} → Behaviour N → Trees N → Type 0
  EachPlain b none = Unit {0}
  EachPlain b (more t ts) = ArePlain b t × EachPlain b ts

abbrev mutual
  -- no leaf is Ordered: records in another order give the same records
  pub Steady : {N : Type 0} → Behaviour N → Tree N → Type 0
  Steady b (Leaf o) = b.class o ≢ Ordered
  Steady b (Pipe ts) = SteadyParts b ts
  Steady b (Comb ts) = SteadyParts b ts
  Steady b (Farm n s w) = Steady b w
  Steady b (OFarm n s w) = Steady b w
  Steady b (A2a n l r m t) = Steady b l × Steady b t
  Steady b (Wrap n w p) = Steady b w

  pub SteadyParts : {N : Type 0} → Behaviour N → Trees N → Type 0
  SteadyParts b none = Unit {0}
  SteadyParts b (more t ts) = Steady b t × SteadyParts b ts

-- each part is a leaf
abbrev pub AreLeaves : {N : Type 0} → Trees N → Type 0
AreLeaves none = Unit {0}
AreLeaves (more t ts) = (is_leaf t ≡ true) × AreLeaves ts

-- one node or several that run as one, all of them Plain
abbrev pub PlainNode : {N : Type 0} → Behaviour N → Tree N → Type 0
PlainNode b t = (is_node t ≡ true) × ArePlain b t

-- one Keyed node, to which the records come by its own field
abbrev pub KeyedNode : {N : Type 0} → Behaviour N → Route → Tree N → Type 0
KeyedNode {N} b r t = (o : N) × (f : ℕ) × (t ≡ Leaf o) × (b.class o ≡ Keyed f) × (r ≡ By f)

-- a route that goes by a field names one that a record may have
abbrev pub RouteInRange : Route → Type 0
RouteInRange (By f) = InRange f
RouteInRange _ = Unit {0}

abbrev mutual
  -- each form has parts that its law asks for; in a pipe either a part is ordered, or all behind it are steady
  pub Good : {N : Type 0} → Behaviour N → Tree N → Type 0
  Good b (Leaf o) = Unit {0}
  Good b (Pipe ts) = InRange (count ts) × GoodParts b ts
  Good b (Comb ts) = InRange (count ts) × AreLeaves ts
  Good b (Farm n s w) = InRange n × ArePlain b w × (has_wrap w ≡ false) × Good b w
  Good b (OFarm n s w) = InRange n × ArePlain b w × (is_pipeline w ≡ true) × Good b w
  Good b (A2a n l r m t) = InRange n × InRange m × RouteInRange r × PlainNode b l × (PlainNode b t ⊎ KeyedNode b r t) × Good b l × Good b t
  Good b (Wrap n w p) = InRange n × InRange p.field × PlainNode b w × Good b w

  pub GoodParts : {N : Type 0} → Behaviour N → Trees N → Type 0
  GoodParts b none = Unit {0}
  GoodParts b (more t ts) = Good b t × GoodParts b ts × ((is_ordered t ≡ true) ⊎ SteadyParts b ts)

-- where a wrap stands in a pipe, it is one of its parts
abbrev pub EachTopOrNone : {N : Type 0} → Trees N → Type 0
EachTopOrNone none = Unit {0}
EachTopOrNone (more t ts) = ((is_wrap t ≡ true) ⊎ (has_wrap t ≡ false)) × EachTopOrNone ts

-- a wrap is the whole network or a part of the outermost pipe
abbrev pub WrapsOnTop : {N : Type 0} → Tree N → Type 0
WrapsOnTop (Wrap n w p) = Unit {0}
WrapsOnTop (Pipe ts) = EachTopOrNone ts
WrapsOnTop t = has_wrap t ≡ false

-- a network is within the limits of its version
pub record IsWithin {N : Type 0} (v : Version) (t : Tree N) : Type 0 where
  pub depth : depth t ≤ most_depth
  pub units : units t ≤ most_units v
  pub edges : edges t ≤ most_edges
