-- What the outs of laid units weigh together: the edge that the network writes, and its inner edges.
use Rattle.std.proofs.Common.{◌≡◌, ◌≤◌, ℕ, suc, ◌+◌, ◌-◌, ◌*◌, List, [], ◌∷◌, ◌++◌, refl, ap, arith}
use Rattle.ff_node.specs.Behaviour.{Behaviour}
use Rattle.ff_rec.proofs.WeightLaws.{weigh-append}
use Rattle.ff_rec.specs.Weights.{weigh}
use Rattle.ff_net.specs.Counts.{count, inner_edges, all_inner_edges, pick_edges}
use Rattle.ff_net.specs.Good.{Good, GoodParts}
use Rattle.ff_net.specs.Places.{child}
use Rattle.ff_net.specs.Tree.{Tree, Trees, Leaf, Pipe, Comb, Farm, OFarm, A2a, Wrap, none, more}
use Rattle.ff_plan.specs.declared.kind.UnitKind.TheVariants.{Stage, Merge, Worker}
use Rattle.ff_plan.specs.Laying.{lay, lay_parts, lay_copies, copies, row_deals, column_merges, omerge_kind, route_kind}
use Rattle.ff_plan.specs.Rows.{laid, range}
use Rattle.ff_plan.proofs.Ranges.{range-cut, plain-cut, farm-cut, sets-cut}
use Rattle.ff_plan.proofs.WeighedRows.{weigh_outs, outs-append, outs-copies, outs-row_deals, outs-column_merges, outs-lay_copies}

module _ {N : Type 0} (h : ℕ → ℕ) where
  module _ (b : Behaviour N) where
    mutual
      pub outs-lay : (t : Tree N) → Good b t → (at : List ℕ) (i o e : ℕ) → weigh_outs h (lay at t i o e) ≡ h o + weigh h (range e (inner_edges t))
      outs-lay (Leaf x) good at i o e = omega arith
      outs-lay (Comb ts) good at i o e = omega arith
      outs-lay (Pipe ts) good at i o e =
          omega (
            arith,
            outs-lay_parts ts good.1 at 1 i o e (e + (count ts - 1)) good.0.0,
            range-cut h e (e + (count ts - 1)) (count ts - 1) (all_inner_edges ts) (count ts - 1 + all_inner_edges ts) refl refl,
          )
      outs-lay (Farm n s w) good at i o e =
          let workers = lay_copies (lay (child at 1) w) (inner_edges w) e (e + n) (e + 2 * n) n in
          omega (
            arith,
            outs-append h workers (laid Merge (range (e + n) n) (o ∷ []) at (Farm n s w) ∷ []),
            outs-lay_copies h (lay (child at 1) w) (inner_edges w) (λ (j q f : ℕ). outs-lay w good.3 (child at 1) j q f) e (e + n) (e + 2 * n) n,
            plain-cut h e n (inner_edges w),
          )
      outs-lay (OFarm n s w) good at i o e =
          let p = pick_edges s in
          let workers = lay_copies (lay (child at 1) w) (inner_edges w) e (e + n) (e + 2 * n + p) n in
          omega (
            arith,
            outs-append h workers (laid (omerge_kind s) (range (e + n) n ++ range (e + 2 * n) p) (o ∷ []) at (OFarm n s w) ∷ []),
            outs-lay_copies h (lay (child at 1) w) (inner_edges w) (λ (j q f : ℕ). outs-lay w good.3 (child at 1) j q f) e (e + n) (e + 2 * n + p) n,
            weigh-append h (range e n) (range (e + 2 * n) p),
            farm-cut h e n p (inner_edges w),
          )
      outs-lay (A2a n l r m t) good at i o e =
          let form = A2a n l r m t in
          let c = e + 2 * n in
          let d = c + n * m in
          let left = copies Stage (child at 1) l e (e + n) n in
          let deals = row_deals (route_kind r) at form m (e + n) c n in
          let merges = column_merges at form n m c d m in
          let right = copies Stage (child at 2) t d (d + m) m in
          let last = laid Merge (range (d + m) m) (o ∷ []) at form ∷ [] in
          omega (
            arith,
            outs-append h left (deals ++ (merges ++ (right ++ last))),
            outs-append h deals (merges ++ (right ++ last)),
            outs-append h merges (right ++ last),
            outs-append h right last,
            outs-copies h Stage (child at 1) l e (e + n) n,
            outs-row_deals h (route_kind r) at form m (e + n) c n,
            outs-column_merges h at form n m c d m,
            outs-copies h Stage (child at 2) t d (d + m) m,
            sets-cut h e n m,
          )
      outs-lay (Wrap n w p) good at i o e =
          let both : 2 * n ≡ n + n = omega arith in
          omega (arith, outs-copies h Worker (child at 1) w e (e + n) n, weigh-append h (range e n) (o ∷ []), range-cut h e (e + n) n n (2 * n) both refl)

      outs-lay_parts : (ts : Trees N) → GoodParts b ts → (at : List ℕ) (k i o j e : ℕ) → 1 ≤ count ts
          → weigh_outs h (lay_parts at k ts i o j e) ≡ h o + (weigh h (range j (count ts - 1)) + weigh h (range e (all_inner_edges ts)))
      outs-lay_parts none good at k i o j e some = absurd (omega arith)
      outs-lay_parts (more t none) good at k i o j e some =
          let all : inner_edges t + 0 ≡ inner_edges t = omega arith in
          omega (arith, outs-lay t good.0 (child at k) i o e, ap (λ n. weigh h (range e n)) all)
      outs-lay_parts (more t (more u us)) good at k i o j e some =
          let rest : 1 ≤ count us + 1 = omega arith in
          let between : count us + 1 + 1 - 1 ≡ 1 + (count us + 1 - 1) = omega arith in
          let next : suc j ≡ j + 1 = omega arith in
          omega (
            arith,
            outs-append h (lay (child at k) t i j e) (lay_parts at (k + 1) (more u us) j o (suc j) (e + inner_edges t)),
            outs-lay t good.0 (child at k) i j e,
            outs-lay_parts (more u us) good.1 at (k + 1) j o (suc j) (e + inner_edges t) rest,
            range-cut h j (suc j) 1 (count us + 1 - 1) (count us + 1 + 1 - 1) between next,
            range-cut h e (e + inner_edges t) (inner_edges t) (all_inner_edges (more u us)) (inner_edges t + all_inner_edges (more u us)) refl refl,
          )
