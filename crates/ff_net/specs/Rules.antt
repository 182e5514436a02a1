-- The rules that a network has to keep.
use Rattle.std.specs.Prelude.{ℕ, Bool, if◌then◌else◌, List, [], ◌∷◌, map, Option, None, Some}
use Rattle.std.specs.List.{flat_map}
use Rattle.ff_node.specs.Behaviour.{Behaviour}
use Rattle.ff_net.specs.declared.net.Version.{Version}
use Rattle.ff_net.specs.declared.rule.Rule.{Rule}
use Rattle.ff_net.specs.declared.rule.Rule.TheVariants.{Depth, Parts, Workers, Units, Edges, CombParts, FarmLeaves, OFarmWorkers, Sets, Order, Keys, WrapWorkers, WrapPlaces, FieldNumbers}
use Rattle.ff_net.specs.Tree.{Tree}
use Rattle.ff_net.specs.Places.{Seen, everything}
use Rattle.ff_net.specs.RuleTests.{is_too_deep, has_bad_parts, has_bad_workers, has_many_units, has_many_edges, is_bad_comb_part, is_bad_in_farm, is_bad_ofarm_worker, is_bad_set, is_bad_behind, is_bad_key, is_bad_wrap_worker, is_bad_wrap, has_bad_field}

-- whether a rule fails at this network. `b` is what the nodes do
abbrev pub fails : {N : Type 0} → Behaviour N → Version → Rule → Seen N → Bool
fails b v Depth x = is_too_deep x.place
fails b v Parts x = has_bad_parts x.net
fails b v Workers x = has_bad_workers x.net
fails b v Units x = has_many_units v x.spot.role x.net
fails b v Edges x = has_many_edges x.spot.role x.net
fails b v CombParts x = is_bad_comb_part x.spot.role x.net
fails b v FarmLeaves x = is_bad_in_farm b x.spot.in_farm x.net
fails b v OFarmWorkers x = is_bad_ofarm_worker b x.spot.role x.net
fails b v Sets x = is_bad_set b x.spot.role x.net
fails b v Order x = is_bad_behind b x.spot.behind x.net
fails b v Keys x = is_bad_key b x.spot.role x.net
fails b v WrapWorkers x = is_bad_wrap_worker b x.spot.role x.net
fails b v WrapPlaces x = is_bad_wrap x.spot.role x.net
fails b v FieldNumbers x = has_bad_field x.net

-- the number by which a rule is named
abbrev pub number_of : Rule → ℕ
number_of Depth = 1
number_of Parts = 2
number_of Workers = 3
number_of Units = 4
number_of Edges = 5
number_of CombParts = 6
number_of FarmLeaves = 7
number_of OFarmWorkers = 8
number_of Sets = 9
number_of Order = 10
number_of Keys = 11
number_of WrapWorkers = 12
number_of WrapPlaces = 13
number_of FieldNumbers = 14

-- all rules, the lowest first
abbrev pub all_rules : List Rule
all_rules = Depth ∷ Parts ∷ Workers ∷ Units ∷ Edges ∷ CombParts ∷ FarmLeaves ∷ OFarmWorkers ∷ Sets ∷ Order ∷ Keys ∷ WrapWorkers ∷ WrapPlaces ∷ FieldNumbers ∷ []

-- the places of those that fail the test
abbrev pub places : {N : Type 0} → (Seen N → Bool) → List (Seen N) → List (List ℕ)
places test [] = []
places test (x ∷ xs) = if test x then x.place ∷ places test xs else places test xs

-- the places at which a network breaks a rule, parents before children, from left to right
abbrev pub breaks : {N : Type 0} → Behaviour N → Version → Rule → Tree N → List (List ℕ)
breaks b v rule t = places (fails b v rule) (everything t)

-- all faults of a network, the lowest rule first
abbrev pub faults_of : {N : Type 0} → Behaviour N → Version → Tree N → List Rule → List (ℕ × List ℕ)
faults_of b v t rules = flat_map (λ rule. map (λ place. (number_of rule, place)) (breaks b v rule t)) rules

abbrev pub first : {A : Type 0} → List A → Option A
first [] = None
first (x ∷ xs) = Some x

-- the lowest rule that a network breaks, and the first place at which it does
abbrev pub first_fault : {N : Type 0} → Behaviour N → Version → Tree N → Option (ℕ × List ℕ)
first_fault b v t = first (faults_of b v t all_rules)
