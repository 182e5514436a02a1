-- Which forms stand in a network.
use Rattle.std.specs.Prelude.{Bool, true, false, not, ◌||◌}
use Rattle.ff_net.specs.declared.net.Sched.{Sched}
use Rattle.ff_net.specs.declared.net.Sched.TheVariants.{Rr as DealRr, Od as DealOd}
use Rattle.ff_net.specs.declared.net.Route.{Route}
use Rattle.ff_net.specs.declared.net.Route.TheVariants.{Rr, Od, By}
use Rattle.ff_net.specs.Tree.{Tree, Trees, Leaf, Pipe, Comb, Farm, OFarm, A2a, Wrap, none, more}

abbrev mutual
  -- whether a wrap stands in it
  pub has_wrap : {N : Type 0} → Tree N → Bool
  has_wrap (Leaf o) = false
  has_wrap (Pipe ts) = any_wrap ts
  has_wrap (Comb ts) = any_wrap ts
  has_wrap (Farm n s w) = has_wrap w
  has_wrap (OFarm n s w) = has_wrap w
  has_wrap (A2a n l r m t) = has_wrap l || has_wrap t
  has_wrap (Wrap n w t) = true

  pub any_wrap : {N : Type 0} → Trees N → Bool
  any_wrap none = false
  any_wrap (more t ts) = has_wrap t || any_wrap ts

abbrev mutual
  -- whether a farm, an ordered farm, an all-to-all or a wrap stands in it: then some of its nodes are copied
  pub has_copies : {N : Type 0} → Tree N → Bool
  has_copies (Leaf o) = false
  has_copies (Pipe ts) = any_copies ts
  has_copies (Comb ts) = any_copies ts
  has_copies (Farm n s w) = true
  has_copies (OFarm n s w) = true
  has_copies (A2a n l r m t) = true
  has_copies (Wrap n w t) = true

  pub any_copies : {N : Type 0} → Trees N → Bool
  any_copies none = false
  any_copies (more t ts) = has_copies t || any_copies ts

abbrev mutual
  -- whether a farm, an all-to-all or a wrap stands in it: then what comes out may come in another order
  pub is_unordered : {N : Type 0} → Tree N → Bool
  is_unordered (Leaf o) = false
  is_unordered (Pipe ts) = any_unordered ts
  is_unordered (Comb ts) = any_unordered ts
  is_unordered (Farm n s w) = true
  is_unordered (OFarm n s w) = is_unordered w
  is_unordered (A2a n l r m t) = true
  is_unordered (Wrap n w t) = true

  pub any_unordered : {N : Type 0} → Trees N → Bool
  any_unordered none = false
  any_unordered (more t ts) = is_unordered t || any_unordered ts

-- whether what comes out comes in the order of what went in
abbrev pub is_ordered : {N : Type 0} → Tree N → Bool
is_ordered t = not (is_unordered t)

-- whether a farm deals on demand
abbrev pub is_on_demand : Sched → Bool
is_on_demand DealRr = false
is_on_demand DealOd = true

-- whether the records of an all-to-all go on demand
abbrev pub goes_on_demand : Route → Bool
goes_on_demand Rr = false
goes_on_demand Od = true
goes_on_demand (By f) = false

abbrev mutual
  -- whether a wrap, or something that goes on demand, stands in it: then how it runs isn't fixed by what it is fed
  pub has_choice : {N : Type 0} → Tree N → Bool
  has_choice (Leaf o) = false
  has_choice (Pipe ts) = any_choice ts
  has_choice (Comb ts) = any_choice ts
  has_choice (Farm n s w) = is_on_demand s || has_choice w
  has_choice (OFarm n s w) = is_on_demand s || has_choice w
  has_choice (A2a n l r m t) = goes_on_demand r || (has_choice l || has_choice t)
  has_choice (Wrap n w p) = true

  pub any_choice : {N : Type 0} → Trees N → Bool
  any_choice none = false
  any_choice (more t ts) = has_choice t || any_choice ts

-- whether a network can be run by sweeps over its units
abbrev pub sweeps : {N : Type 0} → Tree N → Bool
sweeps t = not (has_choice t)
