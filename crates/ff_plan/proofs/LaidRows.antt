-- The rows of units that are laid beside one another.
use Rattle.std.proofs.Common.{◌≡◌, ℕ, zero, suc, ◌+◌, ◌*◌, List, [], ◌∷◌, ◌++◌, map, refl, ap}
use Rattle.std.proofs.lemmas.List.{map-append}
use Rattle.ff_net.specs.declared.net.Route.{Route}
use Rattle.ff_net.specs.declared.net.Test.{Test}
use Rattle.ff_net.specs.Places.{child}
use Rattle.ff_net.specs.Tree.{Tree, A2a, Wrap, tree_of-Pipe, tree_of-Comb}
use Rattle.ff_plan.specs.declared.kind.UnitKind.{UnitKind}
use Rattle.ff_plan.specs.declared.kind.UnitKind.TheVariants.{Merge, Master, Worker}
use Rattle.ff_plan.specs.Rows.{Laid, range, stride}
use Rattle.ff_plan.specs.Laying.{lay, copies, row_deals, column_merges, route_kind}
use Rattle.ff_plan.specs.AlikeRows.{row_of, copied_rows, deal_rows, merge_rows, set_rows, wrap_rows}

module _ {N : Type 0} where
  pub map-copies : (kind : UnitKind) (at : List ℕ) (t : Tree N) (i o n : ℕ) → map (λ (l : Laid N). l.row) (copies kind at t i o n) ≡ copied_rows kind at i o n
  map-copies kind at t i o zero = refl
  map-copies kind at t i o (suc n) = ap (λ rs. row_of kind (i ∷ []) (o ∷ []) at ∷ rs) (map-copies kind at t (suc i) (suc o) n)

  pub map-row_deals : (kind : UnitKind) (at : List ℕ) (t : Tree N) (m b c n : ℕ) → map (λ (l : Laid N). l.row) (row_deals kind at t m b c n) ≡ deal_rows kind at m b c n
  map-row_deals kind at t m b c zero = refl
  map-row_deals kind at t m b c (suc n) = ap (λ rs. row_of kind (b ∷ []) (range c m) at ∷ rs) (map-row_deals kind at t m (suc b) (c + m) n)

  pub map-column_merges : (at : List ℕ) (t : Tree N) (n m c d k : ℕ) → map (λ (l : Laid N). l.row) (column_merges at t n m c d k) ≡ merge_rows at n m c d k
  map-column_merges at t n m c d zero = refl
  map-column_merges at t n m c d (suc k) = ap (λ rs. row_of Merge (stride m c n) (d ∷ []) at ∷ rs) (map-column_merges at t n m (suc c) (suc d) k)

  -- an all-to-all
  pub map-lay-A2a : (at : List ℕ) (n : ℕ) (l : Tree N) (r : Route) (m : ℕ) (t : Tree N) (i o e : ℕ)
      → map (λ (l : Laid N). l.row) (lay at (A2a n l r m t) i o e)
      ≡ set_rows at n (route_kind r) m i o e (e + n) (e + 2 * n) (e + 2 * n + n * m) (e + 2 * n + n * m + m)
  map-lay-A2a at n l r m t i o e = simp (map-append, map-copies, map-row_deals, map-column_merges)

  -- a wrap
  pub map-lay-Wrap : (at : List ℕ) (n : ℕ) (w : Tree N) (p : Test) (i o e : ℕ) → map (λ (l : Laid N). l.row) (lay at (Wrap n w p) i o e) ≡ wrap_rows at n i o e
  map-lay-Wrap at n w p i o e = ap (λ rs. row_of Master (i ∷ range (e + n) n) (range e n ++ o ∷ []) at ∷ rs) (map-copies Worker (child at 1) w e (e + n) n)

pub ruleset laid_rows = (tree_of-Pipe, tree_of-Comb)
