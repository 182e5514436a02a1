-- The middle of an all-to-all: what holds of all edges row by row holds of them column by column.
use Rattle.std.proofs.Common.{◌≡◌, false, ℕ, zero, suc, ◌+◌, List, [], ◌∷◌, ◌++◌, subst, arith}
use Rattle.std.specs.List.{AllByRecursion}
use Rattle.ff_plan.specs.declared.kind.UnitKind.TheVariants.{Stage, Merge}
use Rattle.ff_net.specs.declared.net.Route.{Route}
use Rattle.ff_net.specs.declared.net.Route.TheVariants.{Rr, Od, By}
use Rattle.ff_net.specs.Forms.{goes_on_demand}
use Rattle.ff_net.specs.Tree.{Tree}
use Rattle.ff_plan.specs.Laying.{copies, row_deals, column_merges, route_kind}
use Rattle.ff_plan.specs.Rows.{Laid, laid, range, stride}
use Rattle.std.proofs.lemmas.Bool.{true≢false}
use Rattle.ff_sweeps.proofs.Moments.{Moment, Dry, Closed, Passes, IsStuck, AllEnded}
use Rattle.ff_sweeps.proofs.Bands.{all-append, all-front, all-back, beside, nothing}

-- the edges by rows, `m` in each, and by `k` columns, `n` in each
abbrev pub by_rows : ℕ → ℕ → ℕ → List ℕ
by_rows m c zero = []
by_rows m c (suc n) = range c m ++ by_rows m (c + m) n

abbrev pub by_columns : ℕ → ℕ → ℕ → ℕ → List ℕ
by_columns m n c zero = []
by_columns m n c (suc k) = stride m c n ++ by_columns m n (suc c) k

module _ (P : ℕ → Type 0) where
  -- the first row of some columns, and the others
  row_out : (m n c k : ℕ) → AllByRecursion P (by_columns m (suc n) c k) → AllByRecursion P (range c k) × AllByRecursion P (by_columns m n (c + m) k)
  row_out m n c zero all = (tt, tt)
  row_out m n c (suc k) all =
      let next : suc c + m ≡ suc (c + m) = omega arith in
      let first = all-front P (stride m (c + m) n) (by_columns m (suc n) (suc c) k) all.1 in
      let rest = row_out m n (suc c) k (all-back P (stride m (c + m) n) (by_columns m (suc n) (suc c) k) all.1) in
      ((all.0, rest.0), all-append P (stride m (c + m) n) (by_columns m n (suc (c + m)) k) first (subst (λ d. AllByRecursion P (by_columns m n d k)) next rest.1))

  row_in : (m n c k : ℕ) → AllByRecursion P (range c k) → AllByRecursion P (by_columns m n (c + m) k) → AllByRecursion P (by_columns m (suc n) c k)
  row_in m n c zero row rest = tt
  row_in m n c (suc k) row rest =
      let next : suc (c + m) ≡ suc c + m = omega arith in
      let first = all-front P (stride m (c + m) n) (by_columns m n (suc (c + m)) k) rest in
      let others = subst (λ d. AllByRecursion P (by_columns m n d k)) next (all-back P (stride m (c + m) n) (by_columns m n (suc (c + m)) k) rest) in
      (row.0, all-append P (stride m (c + m) n) (by_columns m (suc n) (suc c) k) first (row_in m n (suc c) k row.1 others))

  no_rows : (m c k : ℕ) → AllByRecursion P (by_columns m zero c k)
  no_rows m c zero = tt
  no_rows m c (suc k) = no_rows m (suc c) k

  pub to_rows : (m n c : ℕ) → AllByRecursion P (by_columns m n c m) → AllByRecursion P (by_rows m c n)
  to_rows m zero c all = tt
  to_rows m (suc n) c all =
      let both = row_out m n c m all in
      all-append P (range c m) (by_rows m (c + m) n) both.0 (to_rows m n (c + m) both.1)

  pub to_columns : (m n c : ℕ) → AllByRecursion P (by_rows m c n) → AllByRecursion P (by_columns m n c m)
  to_columns m zero c all = no_rows m c m
  to_columns m (suc n) c all =
      row_in m n c m (all-front P (range c m) (by_rows m (c + m) n) all) (to_columns m n (c + m) (all-back P (range c m) (by_rows m (c + m) n) all))

module _ (v : Moment) where
  -- what columns pass on, rows do
  pub by_the_rows : (m n c : ℕ) (outs : List ℕ) (A : Type 0) → Passes v (by_columns m n c m) outs A → Passes v (by_rows m c n) outs A
  by_the_rows m n c outs A passes dry =
      let passed = passes dry in
      record {
        dry = to_rows (Dry v) m n c passed.dry;
        ends = λ closed. passed.ends (to_columns (Closed v) m n c closed);
      }

module _ {N : Type 0} (v : Moment) where
  pub passes_stages : (at : List ℕ) (t : Tree N) (i o n : ℕ) → AllByRecursion (IsStuck v) (copies Stage at t i o n)
      → Passes v (range i n) (range o n) (AllEnded v (copies Stage at t i o n))
  passes_stages at t i o zero stuck = nothing v
  passes_stages at t i o (suc n) stuck =
      let l : Laid N = laid Stage (i ∷ []) (o ∷ []) at t in
      beside v (i ∷ []) (o ∷ []) (range (suc i) n) (range (suc o) n) (v.Ended l.row) (AllEnded v (copies Stage at t (suc i) (suc o) n)) stuck.0.0 (passes_stages at t (suc i) (suc o) n stuck.1)

  passes_deal : (r : Route) → goes_on_demand r ≡ false → (ins outs at : List ℕ) (t : Tree N) → IsStuck v (laid (route_kind r) ins outs at t)
      → Passes v ins outs (v.Ended (laid (route_kind r) ins outs at t).row)
  passes_deal Rr turns ins outs at t stuck = stuck
  passes_deal Od turns ins outs at t stuck = absurd (true≢false turns)
  passes_deal (By f) turns ins outs at t stuck = stuck

  pub passes_deals : (r : Route) → goes_on_demand r ≡ false → (at : List ℕ) (t : Tree N) (m b c n : ℕ) → AllByRecursion (IsStuck v) (row_deals (route_kind r) at t m b c n)
      → Passes v (range b n) (by_rows m c n) (AllEnded v (row_deals (route_kind r) at t m b c n))
  passes_deals r turns at t m b c zero stuck = nothing v
  passes_deals r turns at t m b c (suc n) stuck =
      let l : Laid N = laid (route_kind r) (b ∷ []) (range c m) at t in
      beside v (b ∷ []) (range c m) (range (suc b) n) (by_rows m (c + m) n) (v.Ended l.row) (AllEnded v (row_deals (route_kind r) at t m (suc b) (c + m) n))
      (passes_deal r turns (b ∷ []) (range c m) at t stuck.0) (passes_deals r turns at t m (suc b) (c + m) n stuck.1)

  pub passes_merges : (at : List ℕ) (t : Tree N) (n m c d k : ℕ) → AllByRecursion (IsStuck v) (column_merges at t n m c d k)
      → Passes v (by_columns m n c k) (range d k) (AllEnded v (column_merges at t n m c d k))
  passes_merges at t n m c d zero stuck = nothing v
  passes_merges at t n m c d (suc k) stuck =
      let l : Laid N = laid Merge (stride m c n) (d ∷ []) at t in
      beside v (stride m c n) (d ∷ []) (by_columns m n (suc c) k) (range (suc d) k) (v.Ended l.row) (AllEnded v (column_merges at t n m (suc c) (suc d) k))
      stuck.0 (passes_merges at t n m (suc c) (suc d) k stuck.1)
