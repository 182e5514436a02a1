-- What networks without an Ordered node mean for records in another order: the same records, the same rejects, and within the same limits.
use Rattle.std.proofs.Common.{ℕ, suc, List, []}
use Rattle.ff_rec.specs.Lines.{Rec}
use Rattle.ff_rec.specs.Weights.{Same}
use Rattle.ff_rec.proofs.WeightLaws.{Same-refl, Same-append}
use Rattle.ff_node.specs.Behaviour.{Behaviour}
use Rattle.ff_node.specs.OnLists.{UnorderedGoesByCounts}
use Rattle.ff_net.specs.Good.{Steady, SteadyParts}
use Rattle.ff_net.specs.Meaning.{mean, mean_through, mean_rejected, mean_rejected_through, Fine, FineThrough}
use Rattle.ff_net.specs.Tree.{Tree, Trees, Leaf, Pipe, Comb, Farm, OFarm, A2a, Wrap, none, more}
use Rattle.ff_plan.proofs.LevelsSame.{over_levels-Same, results-Same, IsOver-Same}

module _ {N : Type 0} (b : Behaviour N) (law : UnorderedGoesByCounts b) (m : ℕ) where
  mutual
    pub mean_steady : (t : Tree N) → Steady b t → (xs ys : List Rec) → Same xs ys → Same (mean b m t xs) (mean b m t ys)
    mean_steady (Leaf o) steady xs ys same = (law o steady xs ys same).0
    mean_steady (Pipe ts) steady xs ys same = mean_through_steady ts steady xs ys same
    mean_steady (Comb ts) steady xs ys same = mean_through_steady ts steady xs ys same
    mean_steady (Farm n s w) steady xs ys same = mean_steady w steady xs ys same
    mean_steady (OFarm n s w) steady xs ys same = mean_steady w steady xs ys same
    mean_steady (A2a n l r k t) steady xs ys same = mean_steady t steady.1 (mean b m l xs) (mean b m l ys) (mean_steady l steady.0 xs ys same)
    mean_steady (Wrap n w p) steady xs ys same = results-Same (mean b m w) (λ us vs alike. mean_steady w steady us vs alike) p m xs ys same

    pub mean_through_steady : (ts : Trees N) → SteadyParts b ts → (xs ys : List Rec) → Same xs ys → Same (mean_through b m ts xs) (mean_through b m ts ys)
    mean_through_steady none steady xs ys same = same
    mean_through_steady (more t ts) steady xs ys same =
        mean_through_steady ts steady.1 (mean b m t xs) (mean b m t ys) (mean_steady t steady.0 xs ys same)

  mutual
    pub rejected_steady : (t : Tree N) → Steady b t → (xs ys : List Rec) → Same xs ys → Same (mean_rejected b m t xs) (mean_rejected b m t ys)
    rejected_steady (Leaf o) steady xs ys same = (law o steady xs ys same).1
    rejected_steady (Pipe ts) steady xs ys same = rejected_through_steady ts steady xs ys same
    rejected_steady (Comb ts) steady xs ys same = rejected_through_steady ts steady xs ys same
    rejected_steady (Farm n s w) steady xs ys same = rejected_steady w steady xs ys same
    rejected_steady (OFarm n s w) steady xs ys same = rejected_steady w steady xs ys same
    rejected_steady (A2a n l r k t) steady xs ys same =
        Same-append (rejected_steady l steady.0 xs ys same)
        (rejected_steady t steady.1 (mean b m l xs) (mean b m l ys) (mean_steady l steady.0 xs ys same))
    rejected_steady (Wrap n w p) steady xs ys same =
        over_levels-Same (mean b m w) (mean_steady w steady) p (mean_rejected b m w)
        (λ us vs alike. rejected_steady w steady us vs alike) (suc m) xs ys same

    pub rejected_through_steady : (ts : Trees N) → SteadyParts b ts → (xs ys : List Rec) → Same xs ys
        → Same (mean_rejected_through b m ts xs) (mean_rejected_through b m ts ys)
    rejected_through_steady none steady xs ys same = Same-refl []
    rejected_through_steady (more t ts) steady xs ys same =
        Same-append (rejected_steady t steady.0 xs ys same)
        (rejected_through_steady ts steady.1 (mean b m t xs) (mean b m t ys) (mean_steady t steady.0 xs ys same))

  mutual
    pub fine_steady : (t : Tree N) → Steady b t → (xs ys : List Rec) → Same xs ys → Fine b m t xs → Fine b m t ys
    fine_steady (Leaf o) steady xs ys same fine = tt
    fine_steady (Pipe ts) steady xs ys same fine = fine_through_steady ts steady xs ys same fine
    fine_steady (Comb ts) steady xs ys same fine = fine_through_steady ts steady xs ys same fine
    fine_steady (Farm n s w) steady xs ys same fine = fine_steady w steady xs ys same fine
    fine_steady (OFarm n s w) steady xs ys same fine = fine_steady w steady xs ys same fine
    fine_steady (A2a n l r k t) steady xs ys same fine = (
      fine_steady l steady.0 xs ys same fine.0,
      fine_steady t steady.1 (mean b m l xs) (mean b m l ys) (mean_steady l steady.0 xs ys same) fine.1,
    )
    fine_steady (Wrap n w p) steady xs ys same fine = λ over. fine (IsOver-Same (mean b m w) (mean_steady w steady) p m xs ys same over)

    pub fine_through_steady : (ts : Trees N) → SteadyParts b ts → (xs ys : List Rec) → Same xs ys → FineThrough b m ts xs → FineThrough b m ts ys
    fine_through_steady none steady xs ys same fine = tt
    fine_through_steady (more t ts) steady xs ys same fine = (
      fine_steady t steady.0 xs ys same fine.0,
      fine_through_steady ts steady.1 (mean b m t xs) (mean b m t ys) (mean_steady t steady.0 xs ys same) fine.1,
    )
