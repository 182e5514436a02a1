-- A network is laid as so many units as are counted for it.
use Rattle.std.proofs.Common.{◌≡◌, ℕ, zero, suc, ◌+◌, ◌-◌, ◌*◌, List, [], ◌∷◌, ◌++◌, length, refl, ap, ◌∙◌, arith, length-append}
use Rattle.std.proofs.lemmas.List.{length-map}
use Rattle.ff_net.specs.Counts.{count, units, all_units, inner_edges, pick_edges}
use Rattle.ff_net.specs.Places.{child}
use Rattle.ff_net.specs.Tree.{Tree, Trees, Leaf, Pipe, Comb, Farm, OFarm, A2a, Wrap, none, more}
use Rattle.ff_plan.specs.declared.kind.UnitKind.{UnitKind}
use Rattle.ff_plan.specs.declared.kind.UnitKind.TheVariants.{Stage, DealRr, Merge, Worker}
use Rattle.ff_plan.specs.Rows.{Laid, laid, range}
use Rattle.ff_plan.specs.Laying.{lay, lay_parts, lay_copies, copies, row_deals, column_merges, omerge_kind, deal_kind, odeal_kind, route_kind}
use Rattle.ff_plan.specs.Plans.{rows_of}

module _ {N : Type 0} where
  length-copies : (kind : UnitKind) (at : List ℕ) (t : Tree N) (i o n : ℕ) → length (copies kind at t i o n) ≡ n
  length-copies kind at t i o zero = refl
  length-copies kind at t i o (suc n) = ap suc (length-copies kind at t (suc i) (suc o) n)

  length-row_deals : (kind : UnitKind) (at : List ℕ) (t : Tree N) (m b c n : ℕ) → length (row_deals kind at t m b c n) ≡ n
  length-row_deals kind at t m b c zero = refl
  length-row_deals kind at t m b c (suc n) = ap suc (length-row_deals kind at t m (suc b) (c + m) n)

  length-column_merges : (at : List ℕ) (t : Tree N) (n m c d k : ℕ) → length (column_merges at t n m c d k) ≡ k
  length-column_merges at t n m c d zero = refl
  length-column_merges at t n m c d (suc k) = ap suc (length-column_merges at t n m (suc c) (suc d) k)

  length-lay_copies : (one : ℕ → ℕ → ℕ → List (Laid N)) (u width : ℕ) → ((i o e : ℕ) → length (one i o e) ≡ u)
      → (i o e n : ℕ) → length (lay_copies one width i o e n) ≡ n * u
  length-lay_copies one u width each i o e zero = omega arith
  length-lay_copies one u width each i o e (suc n) =
      omega (arith, each i o e, length-append (one i o e) (lay_copies one width (suc i) (suc o) (e + width) n), length-lay_copies one u width each (suc i) (suc o) (e + width) n)

  -- two ends round what stands between them
  length-between : (x y : Laid N) (xs : List (Laid N)) (n : ℕ) → length xs ≡ n → length (x ∷ (xs ++ y ∷ [])) ≡ n + 2
  length-between x y xs n many = omega (arith, many, length-append xs (y ∷ []))

  length-sets : (x y : Laid N) (ls bs cs ds : List (Laid N)) (n m : ℕ) → length ls ≡ n → length bs ≡ n → length cs ≡ m → length ds ≡ m
      → length (x ∷ (ls ++ (bs ++ (cs ++ (ds ++ y ∷ []))))) ≡ 2 * n + 2 * m + 2
  length-sets x y ls bs cs ds n m a b c d =
      omega (arith, a, b, c, d, length-append ls (bs ++ (cs ++ (ds ++ y ∷ []))), length-append bs (cs ++ (ds ++ y ∷ [])), length-append cs (ds ++ y ∷ []), length-append ds (y ∷ []))

  mutual
    pub length-lay : (t : Tree N) (at : List ℕ) (i o e : ℕ) → length (lay at t i o e) ≡ units t
    length-lay (Leaf x) at i o e = refl
    length-lay (Pipe ts) at i o e = length-lay_parts ts at 1 i o e (e + (count ts - 1))
    length-lay (Comb ts) at i o e = refl
    length-lay (Farm n s w) at i o e =
        length-between (laid (deal_kind s) (i ∷ []) (range e n) at (Farm n s w)) (laid Merge (range (e + n) n) (o ∷ []) at (Farm n s w))
        (lay_copies (lay (child at 1) w) (inner_edges w) e (e + n) (e + 2 * n) n) (n * units w)
        (length-lay_copies (lay (child at 1) w) (units w) (inner_edges w) (λ j p f. length-lay w (child at 1) j p f) e (e + n) (e + 2 * n) n)
    length-lay (OFarm n s w) at i o e =
        let picks = range (e + 2 * n) (pick_edges s) in
        length-between (laid (odeal_kind s) (i ∷ []) (range e n ++ picks) at (OFarm n s w)) (laid (omerge_kind s) (range (e + n) n ++ picks) (o ∷ []) at (OFarm n s w))
        (lay_copies (lay (child at 1) w) (inner_edges w) e (e + n) (e + 2 * n + pick_edges s) n) (n * units w)
        (length-lay_copies (lay (child at 1) w) (units w) (inner_edges w) (λ j p f. length-lay w (child at 1) j p f) e (e + n) (e + 2 * n + pick_edges s) n)
    length-lay (A2a n l r m t) at i o e =
        let c = e + 2 * n in
        let d = c + n * m in
        length-sets (laid DealRr (i ∷ []) (range e n) at (A2a n l r m t)) (laid Merge (range (d + m) m) (o ∷ []) at (A2a n l r m t)) (copies Stage (child at 1) l e (e + n) n) (row_deals (route_kind r) at (A2a n l r m t) m (e + n) c n)
        (column_merges at (A2a n l r m t) n m c d m) (copies Stage (child at 2) t d (d + m) m) n m
        (length-copies Stage (child at 1) l e (e + n) n) (length-row_deals (route_kind r) at (A2a n l r m t) m (e + n) c n)
        (length-column_merges at (A2a n l r m t) n m c d m) (length-copies Stage (child at 2) t d (d + m) m)
    length-lay (Wrap n w p) at i o e = omega (arith, length-copies Worker (child at 1) w e (e + n) n)

    length-lay_parts : (ts : Trees N) (at : List ℕ) (k i o j e : ℕ) → length (lay_parts at k ts i o j e) ≡ all_units ts
    length-lay_parts none at k i o j e = refl
    length-lay_parts (more t none) at k i o j e = omega (arith, length-lay t (child at k) i o e)
    length-lay_parts (more t (more u us)) at k i o j e =
        omega (arith, length-append (lay (child at k) t i j e) (lay_parts at (k + 1) (more u us) j o (suc j) (e + inner_edges t)), length-lay t (child at k) i j e, length-lay_parts (more u us) at (k + 1) j o (suc j) (e + inner_edges t))

  -- the plan of a network has as many units as are counted
  pub length-rows_of : (t : Tree N) → length (rows_of t) ≡ units t
  length-rows_of t = length-map (lay [] t 0 1 2) (λ (l : Laid N). l.row) ∙ length-lay t [] 0 1 2
