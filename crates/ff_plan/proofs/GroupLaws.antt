-- What a pipeline of Plain nodes makes of groups: each group by itself, with its Mark behind it.
use Rattle.std.proofs.Common.{◌≡◌, ℕ, suc, ◌+◌, ◌-◌, ◌≤◌, true, List, [], ◌∷◌, ◌++◌, map, sym, ap, ◌∙◌, subst, append-nil, arith}
use Rattle.std.proofs.lemmas.Bool.{false≢true, and_parts}
use Rattle.std.proofs.lemmas.Simd.{map-map}
use Rattle.std.specs.List.{flat_map}
use Rattle.ff_rec.specs.Lines.{Rec}
use Rattle.ff_rec.specs.Streams.{at, items}
use Rattle.ff_rec.specs.Weights.{Same}
use Rattle.ff_rec.proofs.WeightLaws.{Same-≡, Same-sym, Same-trans, Same-append}
use Rattle.ff_node.specs.Behaviour.{Behaviour, KeepsKind, node_rejected}
use Rattle.ff_node.specs.Classes.{ClassLaw}
use Rattle.ff_node.specs.Comb.{comb_node, CombIsPipeline}
use Rattle.ff_node.specs.Fits.{FitsStage, grouped}
use Rattle.ff_node.specs.OnListsLaws.{plain_goes_by_records}
use Rattle.ff_node.specs.Runs.{Message}
use Rattle.ff_net.specs.Counts.{count, inner_edges}
use Rattle.ff_net.specs.Good.{ArePlain, EachPlain, Good, GoodParts}
use Rattle.ff_net.specs.Logs.{Event}
use Rattle.ff_net.specs.Meaning.{mean, mean_through, mean_rejected, mean_rejected_through}
use Rattle.ff_net.specs.Places.{child}
use Rattle.ff_net.specs.RuleTests.{is_node, are_nodes, is_pipeline}
use Rattle.ff_net.specs.Tree.{Tree, Trees, Leaf, Pipe, Comb, Farm, OFarm, A2a, Wrap, none, more}
use Rattle.ff_plan.specs.declared.kind.UnitKind.TheVariants.{Stage}
use Rattle.ff_plan.specs.Histories.{group_of, all_rejected}
use Rattle.ff_plan.specs.Laying.{lay, lay_parts}
use Rattle.ff_plan.specs.Rows.{Laid, laid}
use Rattle.ff_plan.proofs.Alone.{mean-alone, worker_sends-alone}
use Rattle.ff_plan.proofs.FormLaws.{node_no_wrap}
use Rattle.ff_plan.proofs.Grouped.{joined, IsItemOrMark-grouped, items-grouped, replaced-grouped, joined-each}
use Rattle.ff_plan.proofs.Opens.{View, IsOpen, Known}
use Rattle.ff_plan.proofs.PlainWorkers.{IsLine-node, group_of-plain}
use Rattle.ff_plan.proofs.Sets.{lay-node}
use Rattle.ff_plan.proofs.Single.{IsLine, node_rejected-group_of}
use Rattle.ff_plan.proofs.UnitLists.{AllOn-one, EachUnit-append, all_rejected-append}

-- the edge behind a network may carry what it makes of each group; in a whole run its units rejected what it rejects for all of them
pub record GivesGroups {N : Type 0} (b : Behaviour N) (v : View N) (send reject : List Rec → List Rec) (ls : List (Laid N)) (o : ℕ) (gs : List (List Rec)) : Type 0 where
  pub out : v.Out o (grouped (map send gs))
  pub rejects : v.Whole → Same (reject (joined gs)) (all_rejected b ls v.edge)

module _ {N : Type 0} (b : Behaviour N) (keeps : KeepsKind b) (combed : CombIsPipeline b) (law : (o : N) → ClassLaw b o (b.class o)) (m : ℕ) (v : View N) where
  -- a stage
  groups_of_stage : (t : Tree N) → is_node t ≡ true → Good b t → ArePlain b t → (place : List ℕ) (i o : ℕ) (logs : List (List Event)) (gs : List (List Rec))
      → Known b m v (laid Stage (i ∷ []) (o ∷ []) place t ∷ []) logs → v.In i (grouped gs)
      → GivesGroups b v (mean b m t) (mean_rejected b m t) (laid Stage (i ∷ []) (o ∷ []) place t ∷ []) o gs
  groups_of_stage t is good plain place i o [] gs known from = absurd known
  groups_of_stage t is good plain place i o (log ∷ logs) gs known from =
      let line = IsLine-node b m t is good in
      let opens : IsOpen b m v (laid Stage (i ∷ []) (o ∷ []) place t) log = known.0 in
      let given = opens.by (grouped gs ∷ []) (from, tt) in
      let fits : FitsStage (comb_node b) (group_of b t) (grouped gs ∷ []) given.0 = given.2 in
      let sent : at given.0 0 ≡ grouped (map (mean b m t) gs) =
      fits.plain (group_of-plain b keeps t plain) (IsItemOrMark-grouped gs)
      ∙ replaced-grouped (comb_node b) (group_of b t) (mean b m t) (worker_sends-alone b m keeps law combed t (is, plain) good) (mean-alone b m (plain_goes_by_records b law) t plain (node_no_wrap b t is good)) gs in
      record {
        out = subst (v.Out o) sent (AllOn-one v.Out o given.0 given.1);
        rejects = λ whole. rejects line (v.edge i) (v.is_edge whole i (grouped gs) from);
      }
    where
      rejects : IsLine b m t → (ms : List Message) → grouped gs ≡ ms → Same (mean_rejected b m t (joined gs)) (node_rejected (comb_node b) (group_of b t) (items ms) ++ [])
      rejects line ms is_ms =
          let held : List Rec = node_rejected (comb_node b) (group_of b t) (joined gs) in
          Same-trans (Same-≡ _ _ (line.rejected (joined gs)))
          (Same-trans (Same-sym (node_rejected-group_of b keeps combed t (joined gs)))
          (Same-≡ held _ (
          sym (append-nil held) ∙ ap (λ ys. node_rejected (comb_node b) (group_of b t) ys ++ []) (sym (items-grouped gs) ∙ ap items is_ms))))

  -- one node, or several that run as one
  pub groups_of_node : (t : Tree N) → is_node t ≡ true → Good b t → ArePlain b t → (place : List ℕ) (i o e : ℕ) (logs : List (List Event)) (gs : List (List Rec))
      → Known b m v (lay place t i o e) logs → v.In i (grouped gs) → GivesGroups b v (mean b m t) (mean_rejected b m t) (lay place t i o e) o gs
  groups_of_node t is good plain place i o e logs gs known from =
      let P : List (Laid N) → Type 0 = λ ls. Known b m v ls logs → GivesGroups b v (mean b m t) (mean_rejected b m t) ls o gs in
      subst P (sym (lay-node place t is i o e)) (λ stage. groups_of_stage t is good plain place i o logs gs stage from) known

  -- one part, and those behind it, which take its groups
  one_before : (t : Tree N) (ts : Trees N) → ((xs : List Rec) → mean b m t xs ≡ flat_map (λ x. mean b m t (x ∷ [])) xs) → (ls ks : List (Laid N)) (j o : ℕ) (gs : List (List Rec))
      → GivesGroups b v (mean b m t) (mean_rejected b m t) ls j gs → GivesGroups b v (mean_through b m ts) (mean_rejected_through b m ts) ks o (map (mean b m t) gs)
      → GivesGroups b v (mean_through b m (more t ts)) (mean_rejected_through b m (more t ts)) (ls ++ ks) o gs
  one_before t ts each ls ks j o gs first rest = record {
    out = subst (λ groups. v.Out o (grouped groups)) (map-map (mean_through b m ts) (mean b m t) gs) rest.out;
    rejects = λ whole.
        Same-trans (Same-append (first.rejects whole) (subst (λ xs. Same (mean_rejected_through b m ts xs) (all_rejected b ks v.edge)) (joined-each (mean b m t) each gs) (rest.rejects whole)))
        (Same-≡ _ _ (sym (all_rejected-append b ls ks v.edge)));
  }

  -- parts one behind another
  groups_of_parts : (ts : Trees N) → are_nodes ts ≡ true → GoodParts b ts → EachPlain b ts → 1 ≤ count ts → (place : List ℕ) (k i o j e : ℕ) (logs : List (List Event)) (gs : List (List Rec))
      → Known b m v (lay_parts place k ts i o j e) logs → v.In i (grouped gs) → GivesGroups b v (mean_through b m ts) (mean_rejected_through b m ts) (lay_parts place k ts i o j e) o gs
  groups_of_parts none are good plain some place k i o j e logs gs known from = absurd (omega (arith, some))
  groups_of_parts (more t none) are good plain some place k i o j e logs gs known from =
      let only = groups_of_node t (and_parts (is_node t) true are).0 good.0 plain.0 (child place k) i o e logs gs known from in
      record { out = only.out; rejects = λ whole. Same-trans (Same-≡ _ _ (append-nil (mean_rejected b m t (joined gs)))) (only.rejects whole) }
  groups_of_parts (more t (more u us)) are good plain some place k i o j e logs gs known from =
      let both = and_parts (is_node t) (are_nodes (more u us)) are in
      let ls = lay (child place k) t i j e in
      let ks = lay_parts place (k + 1) (more u us) j o (suc j) (e + inner_edges t) in
      let split = EachUnit-append _ ls ks logs known in
      let first = groups_of_node t both.0 good.0 plain.0 (child place k) i j e split.front gs split.left from in
      let taken = v.link j (grouped (map (mean b m t) gs)) first.out in
      let rest = groups_of_parts (more u us) both.1 good.1 plain.1 (omega arith) place (k + 1) j o (suc j) (e + inner_edges t) split.back (map (mean b m t) gs) split.right taken in
      one_before t (more u us) (mean-alone b m (plain_goes_by_records b law) t plain.0 (node_no_wrap b t both.0 good.0)) ls ks j o gs first rest

  -- a pipeline
  pub groups_of : (t : Tree N) → is_pipeline t ≡ true → Good b t → ArePlain b t → (place : List ℕ) (i o e : ℕ) (logs : List (List Event)) (gs : List (List Rec))
      → Known b m v (lay place t i o e) logs → v.In i (grouped gs) → GivesGroups b v (mean b m t) (mean_rejected b m t) (lay place t i o e) o gs
  groups_of (Leaf n) is good plain place i o e logs gs known from = groups_of_node (Leaf n) is good plain place i o e logs gs known from
  groups_of (Comb ts) is good plain place i o e logs gs known from = groups_of_node (Comb ts) is good plain place i o e logs gs known from
  groups_of (Pipe ts) is good plain place i o e logs gs known from = groups_of_parts ts is good.1 plain good.0.0 place 1 i o e (e + (count ts - 1)) logs gs known from
  groups_of (Farm n s w) is good plain place i o e logs gs known from = absurd (false≢true is)
  groups_of (OFarm n s w) is good plain place i o e logs gs known from = absurd (false≢true is)
  groups_of (A2a n l r k t) is good plain place i o e logs gs known from = absurd (false≢true is)
  groups_of (Wrap n w p) is good plain place i o e logs gs known from = absurd (false≢true is)
