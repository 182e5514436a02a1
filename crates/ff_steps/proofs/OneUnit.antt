-- A network with one unit is a leaf or a comb, alone or in pipes.
use Rattle.std.proofs.Common.{◌≡◌, ◌≤◌, false, refl, arith}
use Rattle.std.proofs.lemmas.Bool.{or_from}
use Rattle.ff_node.specs.Behaviour.{Behaviour}
use Rattle.ff_net.specs.Counts.{count, units, all_units}
use Rattle.ff_net.specs.Forms.{has_copies, any_copies}
use Rattle.ff_net.specs.Good.{Good, GoodParts}
use Rattle.ff_net.specs.Tree.{Tree, Trees, Leaf, Pipe, Comb, Farm, OFarm, A2a, Wrap, none, more}
use Rattle.ff_plan.proofs.FormLaws.{node_no_copies}

module _ {N : Type 0} (b : Behaviour N) where
  mutual
    some-units : (t : Tree N) → Good b t → 1 ≤ units t
    some-units (Leaf o) good = omega arith
    some-units (Pipe ts) good = some-all_units ts good.0.0 good.1
    some-units (Comb ts) good = omega arith
    some-units (Farm n s w) good = omega arith
    some-units (OFarm n s w) good = omega arith
    some-units (A2a n l r m t) good = omega arith
    some-units (Wrap n w p) good = omega arith

    some-all_units : (ts : Trees N) → 1 ≤ count ts → GoodParts b ts → 1 ≤ all_units ts
    some-all_units none some good = absurd (omega (arith, some))
    some-all_units (more t ts) some good = omega (arith, some-units t good.0)

  mutual
    pub no_copies-one_unit : (t : Tree N) → Good b t → units t ≡ 1 → has_copies t ≡ false
    no_copies-one_unit (Leaf o) good one = refl
    no_copies-one_unit (Pipe ts) good one = no_copies-one_part ts good.1 one
    no_copies-one_unit (Comb ts) good one = node_no_copies b (Comb ts) refl good
    no_copies-one_unit (Farm n s w) good one = absurd (omega (arith, one))
    no_copies-one_unit (OFarm n s w) good one = absurd (omega (arith, one))
    no_copies-one_unit (A2a n l r m t) good one = absurd (omega (arith, one, good.0.0))
    no_copies-one_unit (Wrap n w p) good one = absurd (omega (arith, one, good.0.0))

    no_copies-one_part : (ts : Trees N) → GoodParts b ts → all_units ts ≡ 1 → any_copies ts ≡ false
    no_copies-one_part none good one = refl
    no_copies-one_part (more t none) good one =
        or_from (has_copies t) false (no_copies-one_unit t good.0 (omega (arith, one))) refl
    no_copies-one_part (more t (more u us)) good one =
        absurd (omega (arith, one, some-units t good.0, some-units u good.1.0))
