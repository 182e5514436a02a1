-- Stages one behind another keep the Marks.
use Rattle.std.proofs.Common.{◌≡◌, ℕ, suc, ◌+◌, ◌-◌, ◌≤◌, true, List, [], ◌∷◌, refl, ap, arith}
use Rattle.std.proofs.lemmas.Bool.{false≢true, and_parts}
use Rattle.std.specs.List.{AllByRecursion}
use Rattle.ff_net.specs.Counts.{count, inner_edges}
use Rattle.ff_net.specs.Places.{child}
use Rattle.ff_net.specs.RuleTests.{is_node, are_nodes, is_pipeline}
use Rattle.ff_net.specs.Tree.{Tree, Trees, Leaf, Pipe, Comb, Farm, OFarm, A2a, Wrap, none, more}
use Rattle.ff_node.specs.Fits.{marks}
use Rattle.ff_plan.specs.declared.kind.UnitKind.TheVariants.{Stage}
use Rattle.ff_plan.specs.Laying.{lay, lay_parts}
use Rattle.ff_plan.specs.Rows.{laid}
use Rattle.ff_sweeps.proofs.Moments.{Moment, InOrder, IsStuck}
use Rattle.ff_sweeps.proofs.Bands.{all-front, all-back}
use Rattle.ff_sweeps.proofs.Orders.{Works, got-fewer}

module _ (v : Moment) (in_order : InOrder v) where
  works_behind : (i j o : ℕ) → Works v i j → Works v j o → Works v i o
  works_behind i j o first second = record {
    keeps = record {
      fewer = omega (arith, first.keeps.fewer, second.keeps.fewer, got-fewer v in_order j);
      same = λ dry unclosed.
          let between = second.dry dry in
          let back = second.keeps.same dry unclosed in
          let front = first.keeps.same between (λ closed. unclosed (second.ends dry closed)) in
          omega (arith, back, front, ap marks between);
    };
    dry = λ dry. first.dry (second.dry dry);
    ends = λ dry closed. second.ends dry (first.ends (second.dry dry) closed);
  }

module _ {N : Type 0} (v : Moment) (in_order : InOrder v) where
  works_stage : (at : List ℕ) (t : Tree N) (i o : ℕ) → IsStuck v (laid Stage (i ∷ []) (o ∷ []) at t) → Works v i o
  works_stage at t i o stuck = record {
    keeps = stuck.1;
    dry = λ dry. (stuck.0 (dry, tt)).dry.0;
    ends = λ dry closed. ((stuck.0 (dry, tt)).ends (closed, tt)).0.0;
  }

  works_node : (t : Tree N) → is_node t ≡ true → (at : List ℕ) (i o e : ℕ) → AllByRecursion (IsStuck v) (lay at t i o e) → Works v i o
  works_node (Leaf x) node at i o e stuck = works_stage at (Leaf x) i o stuck.0
  works_node (Comb ts) node at i o e stuck = works_stage at (Comb ts) i o stuck.0
  works_node (Pipe ts) node at i o e stuck = absurd (false≢true node)
  works_node (Farm n s w) node at i o e stuck = absurd (false≢true node)
  works_node (OFarm n s w) node at i o e stuck = absurd (false≢true node)
  works_node (A2a n l r m t) node at i o e stuck = absurd (false≢true node)
  works_node (Wrap n w p) node at i o e stuck = absurd (false≢true node)

  works_nodes : (ts : Trees N) → 1 ≤ count ts → are_nodes ts ≡ true → (at : List ℕ) (k i o j e : ℕ) → AllByRecursion (IsStuck v) (lay_parts at k ts i o j e) → Works v i o
  works_nodes none some nodes at k i o j e stuck = absurd (omega (arith, some))
  works_nodes (more t none) some nodes at k i o j e stuck =
      works_node t (and_parts (is_node t) true nodes).0 (child at k) i o e stuck
  works_nodes (more t (more u us)) some nodes at k i o j e stuck =
      let both = and_parts (is_node t) (are_nodes (more u us)) nodes in
      let ls = lay (child at k) t i j e in
      let ks = lay_parts at (k + 1) (more u us) j o (suc j) (e + inner_edges t) in
      works_behind v in_order i j o
      (works_node t both.0 (child at k) i j e (all-front (IsStuck v) ls ks stuck))
      (works_nodes (more u us) (omega arith) both.1 at (k + 1) j o (suc j) (e + inner_edges t) (all-back (IsStuck v) ls ks stuck))

  pub works_pipeline : (t : Tree N) → is_pipeline t ≡ true → ((ts : Trees N) → t ≡ Pipe ts → 1 ≤ count ts) → (at : List ℕ) (i o e : ℕ) → AllByRecursion (IsStuck v) (lay at t i o e) → Works v i o
  works_pipeline (Leaf x) line some at i o e stuck = works_stage at (Leaf x) i o stuck.0
  works_pipeline (Comb ts) line some at i o e stuck = works_stage at (Comb ts) i o stuck.0
  works_pipeline (Pipe ts) line some at i o e stuck = works_nodes ts (some ts refl) line at 1 i o e (e + (count ts - 1)) stuck
  works_pipeline (Farm n s w) line some at i o e stuck = absurd (false≢true line)
  works_pipeline (OFarm n s w) line some at i o e stuck = absurd (false≢true line)
  works_pipeline (A2a n l r m t) line some at i o e stuck = absurd (false≢true line)
  works_pipeline (Wrap n w p) line some at i o e stuck = absurd (false≢true line)
