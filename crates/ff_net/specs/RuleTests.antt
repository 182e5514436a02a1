-- Whether a rule fails at one network, by the network itself and by what stands round it.
use Rattle.std.specs.Prelude.{ℕ, nat_lt, nat_eq, Bool, true, false, not, ◌&&◌, ◌||◌, List, length, Option, None, Some}
use Rattle.ff_node.specs.declared.class.Class.{Class}
use Rattle.ff_node.specs.declared.class.Class.TheVariants.{Plain, Ordered, Keyed}
use Rattle.ff_node.specs.Behaviour.{Behaviour}
use Rattle.ff_net.specs.declared.net.Route.{Route}
use Rattle.ff_net.specs.declared.net.Route.TheVariants.{By}
use Rattle.ff_net.specs.declared.net.Version.{Version}
use Rattle.ff_net.specs.declared.spot.Role.{Role}
use Rattle.ff_net.specs.declared.spot.Role.TheVariants.{Whole, TopPart, CombPart, OFarmWorker, LeftSet, RightSet, WrapWorker}
use Rattle.ff_net.specs.Tree.{Tree, Trees, Leaf, Pipe, Comb, Farm, OFarm, A2a, Wrap, none, more}
use Rattle.ff_net.specs.Counts.{count, units, edges}
use Rattle.ff_net.specs.Limits.{most_depth, most_parts, most_units, most_edges}

-- whether a number of parts, of workers or of a field isn't from 1 to the most
abbrev pub is_off : ℕ → Bool
is_off n = nat_eq n 0 || nat_lt most_parts n

-- one node
abbrev pub is_leaf : {N : Type 0} → Tree N → Bool
is_leaf (Leaf o) = true
is_leaf _ = false

-- one node, or several that run as one
abbrev pub is_node : {N : Type 0} → Tree N → Bool
is_node (Leaf o) = true
is_node (Comb ts) = true
is_node _ = false

abbrev pub are_nodes : {N : Type 0} → Trees N → Bool
are_nodes none = true
are_nodes (more t ts) = is_node t && are_nodes ts

-- a leaf, a comb, or a pipe of leaves and combs
abbrev pub is_pipeline : {N : Type 0} → Tree N → Bool
is_pipeline (Leaf o) = true
is_pipeline (Comb ts) = true
is_pipeline (Pipe ts) = are_nodes ts
is_pipeline _ = false

-- a wrap
abbrev pub is_wrap : {N : Type 0} → Tree N → Bool
is_wrap (Wrap n w p) = true
is_wrap _ = false

abbrev pub is_plain : Class → Bool
is_plain Plain = true
is_plain _ = false

abbrev mutual
  -- all leaves are Plain
  pub all_plain : {N : Type 0} → Behaviour N → Tree N → Bool
  all_plain b (Leaf o) = is_plain (b.class o)
  all_plain b (Pipe ts) = each_plain b ts
  all_plain b (Comb ts) = each_plain b ts
  all_plain b (Farm n s w) = all_plain b w
  all_plain b (OFarm n s w) = all_plain b w
  all_plain b (A2a n l r m t) = all_plain b l && all_plain b t
  all_plain b (Wrap n w p) = all_plain b w

  pub each_plain : {N : Type 0} → Behaviour N → Trees N → Bool
  each_plain b none = true
  each_plain b (more t ts) = all_plain b t && each_plain b ts

-- one Plain node, or several that run as one
abbrev pub is_plain_node : {N : Type 0} → Behaviour N → Tree N → Bool
is_plain_node b t = is_node t && all_plain b t

-- a leaf whose class is Plain
abbrev pub is_plain_leaf : {N : Type 0} → Behaviour N → Tree N → Bool
is_plain_leaf b (Leaf o) = is_plain (b.class o)
is_plain_leaf b _ = false

-- a leaf whose class is Ordered
abbrev pub has_ordered_class : Class → Bool
has_ordered_class Ordered = true
has_ordered_class _ = false

abbrev pub is_ordered_leaf : {N : Type 0} → Behaviour N → Tree N → Bool
is_ordered_leaf b (Leaf o) = has_ordered_class (b.class o)
is_ordered_leaf b _ = false

-- the field of a class that is Keyed
abbrev pub key_of : Class → Option ℕ
key_of (Keyed f) = Some f
key_of _ = None

-- the field of a Keyed leaf
abbrev pub leaf_key : {N : Type 0} → Behaviour N → Tree N → Option ℕ
leaf_key b (Leaf o) = key_of (b.class o)
leaf_key b _ = None

-- whether there is a field
abbrev pub is_keyed : Option ℕ → Bool
is_keyed None = false
is_keyed (Some f) = true

-- whether a route goes by another field than this, or by none
abbrev pub misses : Route → Option ℕ → Bool
misses r None = false
misses (By g) (Some f) = not (nat_eq g f)
misses _ (Some f) = true

-- a place with as many child numbers as a network may be deep is that of one that is too deep
abbrev pub is_too_deep : List ℕ → Bool
is_too_deep place = nat_eq (length place) most_depth

-- a pipe or comb without parts or with too many
abbrev pub has_bad_parts : {N : Type 0} → Tree N → Bool
has_bad_parts (Pipe ts) = is_off (count ts)
has_bad_parts (Comb ts) = is_off (count ts)
has_bad_parts _ = false

-- a form with no workers or with too many, or with such a set
abbrev pub has_bad_workers : {N : Type 0} → Tree N → Bool
has_bad_workers (Farm n s w) = is_off n
has_bad_workers (OFarm n s w) = is_off n
has_bad_workers (A2a n l r m t) = is_off n || is_off m
has_bad_workers (Wrap n w p) = is_off n
has_bad_workers _ = false

-- the whole network, if its plan has too many units
abbrev pub has_many_units : {N : Type 0} → Version → Role → Tree N → Bool
has_many_units v Whole t = nat_lt (most_units v) (units t)
has_many_units v _ t = false

-- the whole network, if its plan has too many edges
abbrev pub has_many_edges : {N : Type 0} → Role → Tree N → Bool
has_many_edges Whole t = nat_lt most_edges (edges t)
has_many_edges _ t = false

-- a part of a comb that isn't a leaf
abbrev pub is_bad_comb_part : {N : Type 0} → Role → Tree N → Bool
is_bad_comb_part CombPart t = not (is_leaf t)
is_bad_comb_part _ t = false

-- a leaf inside a farm's worker that isn't Plain
abbrev pub is_bad_in_farm : {N : Type 0} → Behaviour N → Bool → Tree N → Bool
is_bad_in_farm b inside t = inside && (is_leaf t && not (is_plain_leaf b t))

-- an ordered farm's worker that isn't a line of Plain leaves
abbrev pub is_bad_ofarm_worker : {N : Type 0} → Behaviour N → Role → Tree N → Bool
is_bad_ofarm_worker b OFarmWorker t = not (is_pipeline t && all_plain b t)
is_bad_ofarm_worker b _ t = false

-- a left set that isn't a Plain leaf or comb, or a right set that isn't one and isn't a Keyed leaf
abbrev pub is_bad_set : {N : Type 0} → Behaviour N → Role → Tree N → Bool
is_bad_set b LeftSet t = not (is_plain_node b t)
is_bad_set b (RightSet r) t = not (is_plain_node b t || is_keyed (leaf_key b t))
is_bad_set b _ t = false

-- an Ordered leaf behind an unordered part of a pipe
abbrev pub is_bad_behind : {N : Type 0} → Behaviour N → Bool → Tree N → Bool
is_bad_behind b behind t = behind && is_ordered_leaf b t

-- a Keyed right set behind a route that doesn't go by its field
abbrev pub is_bad_key : {N : Type 0} → Behaviour N → Role → Tree N → Bool
is_bad_key b (RightSet r) t = misses r (leaf_key b t)
is_bad_key b _ t = false

-- a wrap's worker that isn't a Plain leaf or a comb of Plain leaves
abbrev pub is_bad_wrap_worker : {N : Type 0} → Behaviour N → Role → Tree N → Bool
is_bad_wrap_worker b WrapWorker t = not (is_plain_node b t)
is_bad_wrap_worker b _ t = false

-- a wrap that isn't the whole network or a part of the outermost pipe
abbrev pub is_bad_wrap : {N : Type 0} → Role → Tree N → Bool
is_bad_wrap Whole t = false
is_bad_wrap TopPart t = false
is_bad_wrap _ t = is_wrap t

-- a route or a test of a field that isn't from 1 to the most
abbrev pub has_bad_field : {N : Type 0} → Tree N → Bool
has_bad_field (A2a n l (By f) m t) = is_off f
has_bad_field (Wrap n w p) = is_off p.field
has_bad_field _ = false
