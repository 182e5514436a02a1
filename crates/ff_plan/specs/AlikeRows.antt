-- Rows of units that stand beside one another, without the networks at their places.
use Rattle.std.specs.Prelude.{ℕ, zero, suc, ◌+◌, List, [], ◌∷◌, ◌++◌}
use Rattle.ff_plan.specs.declared.kind.UnitKind.{UnitKind}
use Rattle.ff_plan.specs.declared.kind.UnitKind.TheVariants.{Stage, DealRr, Merge, Master, Worker}
use Rattle.ff_net.specs.Places.{child}
use Rattle.ff_plan.specs.Rows.{Row, range, stride}

-- a unit of this kind, with its ins and outs and its place
abbrev pub row_of : UnitKind → List ℕ → List ℕ → List ℕ → Row
row_of kind ins outs at = record { kind = kind; ins = ins; outs = outs; place = at }

-- `n` units, unit k from edge i + k to edge o + k
abbrev pub copied_rows : UnitKind → List ℕ → ℕ → ℕ → ℕ → List Row
copied_rows kind at i o zero = []
copied_rows kind at i o (suc n) = row_of kind (i ∷ []) (o ∷ []) at ∷ copied_rows kind at (suc i) (suc o) n

-- `n` deals, deal k from edge b + k to row k of the edges from c on, `m` in each row
abbrev pub deal_rows : UnitKind → List ℕ → ℕ → ℕ → ℕ → ℕ → List Row
deal_rows kind at m b c zero = []
deal_rows kind at m b c (suc n) = row_of kind (b ∷ []) (range c m) at ∷ deal_rows kind at m (suc b) (c + m) n

-- `k` merges, each from one column of these edges to the next edge from d on: `n` rows of `m` edges
abbrev pub merge_rows : List ℕ → ℕ → ℕ → ℕ → ℕ → ℕ → List Row
merge_rows at n m c d zero = []
merge_rows at n m c d (suc k) = row_of Merge (stride m c n) (d ∷ []) at ∷ merge_rows at n m (suc c) (suc d) k

-- an all-to-all
abbrev pub set_rows : List ℕ → ℕ → UnitKind → ℕ → ℕ → ℕ → ℕ → ℕ → ℕ → ℕ → ℕ → List Row
set_rows at n kind m i o e b c d f =
    row_of DealRr (i ∷ []) (range e n) at
    ∷ (copied_rows Stage (child at 1) e b n
    ++ (deal_rows kind at m b c n
    ++ (merge_rows at n m c d m
    ++ (copied_rows Stage (child at 2) d f m
    ++ row_of Merge (range f m) (o ∷ []) at ∷ []))))

-- a wrap
abbrev pub wrap_rows : List ℕ → ℕ → ℕ → ℕ → ℕ → List Row
wrap_rows at n i o e = row_of Master (i ∷ range (e + n) n) (range e n ++ o ∷ []) at ∷ copied_rows Worker (child at 1) e (e + n) n
