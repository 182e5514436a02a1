-- A network that breaks no rule is good.
use Rattle.std.proofs.Common.{◌≡◌, ◌≤◌, ◌+◌, ℕ, nat_lt, false, ◌&&◌, List, [], refl, arith}
use Rattle.ff_node.specs.Behaviour.{Behaviour}
use Rattle.ff_net.specs.declared.net.Version.{Version}
use Rattle.ff_net.specs.declared.rule.Rule.TheVariants.{Parts, Workers, OFarmWorkers, Sets, Keys, WrapWorkers, FieldNumbers, Units, Edges, Depth}
use Rattle.ff_net.specs.declared.spot.Spot.{Spot}
use Rattle.ff_net.specs.declared.spot.Role.TheVariants.{CombPart, OFarmWorker, LeftSet, RightSet, WrapWorker}
use Rattle.ff_net.specs.Tree.{Tree, Trees, Leaf, Pipe, Comb, Farm, OFarm, A2a, Wrap, none, more}
use Rattle.ff_net.specs.Counts.{count, units, edges}
use Rattle.ff_net.specs.Places.{child, as_role, part_role, farm_worker, past, all_in, all_piped, whole}
use Rattle.ff_net.specs.RuleTests.{is_off, is_pipeline, all_plain}
use Rattle.ff_net.specs.Limits.{most_units}
use Rattle.ff_net.specs.Good.{Good, GoodParts, IsWithin}
use Rattle.ff_net.proofs.FirstFault.{shallow_whole}
use Rattle.ff_net.proofs.Kept.{not-false, and-both, or-false, Kept, kept_front, kept_back, kept_here, kept_inner}
use Rattle.ff_net.proofs.NodeSets.{in_range, route_in_range, are_plain, plain_node, right_set}
use Rattle.ff_net.proofs.KeptLeaves.{plain, leaves_combed, ordered_or_steady}
use Rattle.ff_net.proofs.KeptWraps.{no_wrap}

module _ {N : Type 0} (b : Behaviour N) (v : Version) where
  mutual
    pub good : (s : Spot) (at : List ℕ) (t : Tree N) → Kept b v (all_in s at t) → Good b t
    good s at (Leaf o) kept = tt
    good s at (Pipe ts) kept = (
      in_range (count ts) (kept_here b v s at (Pipe ts) kept Parts),
      good_piped (as_role (part_role s.role) s) at 1 ts (kept_inner b v s at (Pipe ts) kept),
    )
    good s at (Comb ts) kept = (
      in_range (count ts) (kept_here b v s at (Comb ts) kept Parts),
      leaves_combed b v (as_role CombPart s) at 1 ts refl (kept_inner b v s at (Comb ts) kept),
    )
    good s at (Farm n d w) kept =
        let worker = kept_inner b v s at (Farm n d w) kept in (
          in_range n (kept_here b v s at (Farm n d w) kept Workers),
          plain b v (farm_worker s) (child at 1) w refl worker,
          no_wrap b v (farm_worker s) (child at 1) w tt worker,
          good (farm_worker s) (child at 1) w worker,
        )
    good s at (OFarm n d w) kept =
        let worker = kept_inner b v s at (OFarm n d w) kept in
        let line = not-false (is_pipeline w && all_plain b w) (kept_here b v (as_role OFarmWorker s) (child at 1) w worker OFarmWorkers) in
        let both = and-both (is_pipeline w) (all_plain b w) line in (
          in_range n (kept_here b v s at (OFarm n d w) kept Workers),
          are_plain b w both.1,
          both.0,
          good (as_role OFarmWorker s) (child at 1) w worker,
        )
    good s at (A2a n l r m t) kept =
        let counts = or-false (is_off n) (is_off m) (kept_here b v s at (A2a n l r m t) kept Workers) in
        let sets = kept_inner b v s at (A2a n l r m t) kept in
        let front = all_in (as_role LeftSet s) (child at 1) l in
        let back = all_in (as_role (RightSet r) s) (child at 2) t in
        let left = kept_front b v front back sets in
        let right = kept_back b v front back sets in (
          in_range n counts.0,
          in_range m counts.1,
          route_in_range n m l t r (kept_here b v s at (A2a n l r m t) kept FieldNumbers),
          plain_node b l (kept_here b v (as_role LeftSet s) (child at 1) l left Sets),
          right_set b r t (kept_here b v (as_role (RightSet r) s) (child at 2) t right Sets) (kept_here b v (as_role (RightSet r) s) (child at 2) t right Keys),
          good (as_role LeftSet s) (child at 1) l left,
          good (as_role (RightSet r) s) (child at 2) t right,
        )
    good s at (Wrap n w p) kept =
        let worker = kept_inner b v s at (Wrap n w p) kept in (
          in_range n (kept_here b v s at (Wrap n w p) kept Workers),
          in_range p.field (kept_here b v s at (Wrap n w p) kept FieldNumbers),
          plain_node b w (kept_here b v (as_role WrapWorker s) (child at 1) w worker WrapWorkers),
          good (as_role WrapWorker s) (child at 1) w worker,
        )

    good_piped : (s : Spot) (at : List ℕ) (k : ℕ) (ts : Trees N) → Kept b v (all_piped s at k ts) → GoodParts b ts
    good_piped s at k none kept = tt
    good_piped s at k (more t ts) kept =
        let front = all_in s (child at k) t in
        let back = all_piped (past t s) at (k + 1) ts in
        let behind = kept_back b v front back kept in
        (good s (child at k) t (kept_front b v front back kept), good_piped (past t s) at (k + 1) ts behind, ordered_or_steady b v s at (k + 1) t ts behind)

  not_above : (most n : ℕ) → nat_lt most n ≡ false → n ≤ most
  not_above most n is = grind (arith, is)

  -- the limits on the whole network
  pub is_within : (t : Tree N) → Kept b v (all_in whole [] t) → IsWithin v t
  is_within t kept = record {
    depth = shallow_whole b v t (kept Depth);
    units = not_above (most_units v) (units t) (kept_here b v whole [] t kept Units);
    edges = not_above 2048 (edges t) (kept_here b v whole [] t kept Edges);
  }
