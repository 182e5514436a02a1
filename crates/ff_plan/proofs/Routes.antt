-- The middle of an all-to-all: each row is dealt to the columns by the route, and each column is merged. What a node makes of the
-- columns is together what it makes of all records, if it goes by records or by the keys of the route.
use Rattle.std.proofs.Common.{◌≡◌, ℕ, ◌+◌, ◌*◌, ◌<◌, ◌≤◌, List, [], refl, sym, ◌∙◌, subst, arith}
use Rattle.ff_rec.specs.Lines.{Rec}
use Rattle.ff_rec.specs.Streams.{carried}
use Rattle.ff_rec.specs.Weights.{weigh}
use Rattle.ff_rec.proofs.WeightLaws.{Same-≡, weigh-flat_map}
use Rattle.ff_node.specs.Behaviour.{Behaviour, node, node_rejected}
use Rattle.ff_node.specs.OnLists.{GoesByKeys, GoesByCounts}
use Rattle.ff_node.specs.Picks.{ArePicks, share, by_key}
use Rattle.ff_net.specs.declared.net.Route.{Route}
use Rattle.ff_net.specs.declared.net.Route.TheVariants.{Rr, Od, By}
use Rattle.ff_net.specs.Logs.{Event}
use Rattle.ff_net.specs.Tree.{Tree}
use Rattle.ff_plan.specs.Laying.{row_deals, column_merges, route_kind}
use Rattle.ff_plan.proofs.Columns.{AreColumns, total-weigh-columns, Same-column-by_key}
use Rattle.ff_plan.proofs.Dealing.{Deals, deals_in_turn, deals_on_demand, deals_by_key, merges}
use Rattle.ff_plan.proofs.EdgeLists.{AllOn-stride, length-stride}
use Rattle.ff_plan.proofs.Keyed.{keyed_places}
use Rattle.ff_plan.proofs.Opens.{View, Known}
use Rattle.ff_plan.proofs.Sets.{Chosen, choose, known_row, known_column}
use Rattle.ff_plan.proofs.Shares.{Additive}
use Rattle.ff_plan.proofs.Totals.{total, total-same}

-- what is known of the picks by which a route deals the rows
abbrev pub IsByRoute : Route → ℕ → (ℕ → List Rec) → (ℕ → List ℕ) → Type 0
IsByRoute Rr k rows deals = Unit {0}
IsByRoute Od k rows deals = Unit {0}
IsByRoute (By f) k rows deals = deals ≡ (λ j. by_key f k (rows j))

-- the rows are dealt, row j to the edges from `c + j * k` on
pub record RowsDealt {N : Type 0} (v : View N) (r : Route) (c n k : ℕ) (rows : ℕ → List Rec) : Type 0 where
  pub deals : ℕ → List ℕ
  pub each : (j : ℕ) → j < n → Deals v (c + j * k) k (deals j) (rows j)
  pub by : IsByRoute r k rows deals

-- edge `o` may carry the records of `merged`, of which list j is the share of place j by the picks of `merged`
pub record IsMerged {N : Type 0} (v : View N) (o n : ℕ) (lists : ℕ → List Rec) (merged : List Rec × List ℕ) : Type 0 where
  pub are : ArePicks n merged.1 merged.0
  pub parts : (j : ℕ) → j < n → share merged.1 merged.0 j ≡ lists j
  pub out : v.Out o (carried merged.0)

-- and the columns are merged, column j to edge `d + j`
pub record AreRouted {N : Type 0} (v : View N) (r : Route) (d n k : ℕ) (rows : ℕ → List Rec) : Type 0 where
  pub deals : ℕ → List ℕ
  pub columns : ℕ → List Rec
  pub merges : ℕ → List ℕ
  pub are : AreColumns n k rows deals columns merges
  pub by : IsByRoute r k rows deals
  pub out : (j : ℕ) → j < k → v.Out (d + j) (carried (columns j))

module _ {N : Type 0} (b : Behaviour N) (m : ℕ) (v : View N) (place : List ℕ) (t : Tree N) where
  -- row j is dealt by its picks
  pub rows_dealt : (r : Route) (i c n k : ℕ) (logs : List (List Event)) (rows : ℕ → List Rec) → Known b m v (row_deals (route_kind r) place t k i c n) logs
      → ((j : ℕ) → j < n → v.In (i + j) (carried (rows j))) → RowsDealt v r c n k rows
  rows_dealt Rr i c n k logs rows known from =
      let chosen : Chosen (λ j (picks : List ℕ). Deals v (c + j * k) k picks (rows j)) n = choose _ n [] (λ j below.
      let row = known_row b m v place t (route_kind Rr) k i c n logs known j below in
      (_, deals_in_turn b m v place t row.0 (i + j) (c + j * k) k (rows j) row.1 (from j below))) in
      record { deals = chosen.value; each = chosen.each; by = tt }
  rows_dealt Od i c n k logs rows known from =
      let chosen : Chosen (λ j (picks : List ℕ). Deals v (c + j * k) k picks (rows j)) n = choose _ n [] (λ j below.
      let row = known_row b m v place t (route_kind Od) k i c n logs known j below in
      deals_on_demand b m v place t row.0 (i + j) (c + j * k) k (rows j) row.1 (from j below)) in
      record { deals = chosen.value; each = chosen.each; by = tt }
  rows_dealt (By f) i c n k logs rows known from = record {
    deals = λ j. by_key f k (rows j);
    each = λ j below.
        let row = known_row b m v place t (route_kind (By f)) k i c n logs known j below in
        deals_by_key b m v place t row.0 f (i + j) (c + j * k) k (rows j) row.1 (from j below);
    by = refl;
  }

  -- column j takes its share of each row
  columns_merged : (r : Route) (c d n k : ℕ) (logs : List (List Event)) (rows : ℕ → List Rec) (dealt : RowsDealt v r c n k rows) → Known b m v (column_merges place t n k c d k) logs
      → (j : ℕ) → j < k → (merged : List Rec × List ℕ) × IsMerged v (d + j) n (λ i. share (dealt.deals i) (rows i) j) merged
  columns_merged r c d n k logs rows dealt known j below =
      let column = known_column b m v place t n k c d k logs known j below in
      let moved : (i : ℕ) → c + i * k + j ≡ c + j + i * k = λ i. omega arith in
      let taken = AllOn-stride v.In k (c + j) n (λ i. carried (share (dealt.deals i) (rows i) j)) (λ i low.
      subst (λ e. v.In e (carried (share (dealt.deals i) (rows i) j))) (moved i) (v.link _ _ ((dealt.each i low).out j below))) in
      let given = merges b m v place t column.0 _ (d + j) n (λ i. share (dealt.deals i) (rows i) j) column.1 (length-stride k (c + j) n) taken in
      ((given.ys, given.picks), record { are = given.are; parts = given.parts; out = given.out })

  -- the rows go to the columns
  pub routed : (r : Route) (i c d n k : ℕ) (deal_logs merge_logs : List (List Event)) (rows : ℕ → List Rec)
      → Known b m v (row_deals (route_kind r) place t k i c n) deal_logs → Known b m v (column_merges place t n k c d k) merge_logs
      → ((j : ℕ) → j < n → v.In (i + j) (carried (rows j))) → AreRouted v r d n k rows
  routed r i c d n k deal_logs merge_logs rows known_deals known_merges from =
      let dealt = rows_dealt r i c n k deal_logs rows known_deals from in
      let P : ℕ → List Rec × List ℕ → Type 0 = λ j merged. IsMerged v (d + j) n (λ i. share (dealt.deals i) (rows i) j) merged in
      let chosen : Chosen P k = choose P k ([], []) (columns_merged r c d n k merge_logs rows dealt known_merges) in
      record {
        deals = dealt.deals;
        columns = λ j. (chosen.value j).0;
        merges = λ j. (chosen.value j).1;
        are = record {
          dealt = λ j below. (dealt.each j below).are;
          merged = λ j below. (chosen.each j below).are;
          shares = λ j i below low. Same-≡ _ _ ((chosen.each j below).parts i low);
        };
        by = dealt.by;
        out = λ j below. (chosen.each j below).out;
      }

-- what `make` makes of the columns is together what it makes of all
abbrev pub AddsUp : Route → ℕ → (List Rec → List Rec) → Type 0
AddsUp r k make = (n : ℕ) (rows columns : ℕ → List Rec) (deals merges : ℕ → List ℕ) (xs : List Rec) → AreColumns n k rows deals columns merges → IsByRoute r k rows deals
    → ((h : Rec → ℕ) → total n (λ j. weigh h (rows j)) ≡ weigh h xs) → (h : Rec → ℕ) → total k (λ j. weigh h (make (columns j))) ≡ weigh h (make xs)

-- a node that goes by records
pub AddsUp-additive : (r : Route) (k : ℕ) (make : List Rec → List Rec) → Additive make → AddsUp r k make
AddsUp-additive r k make additive n rows columns deals merges xs are by together h =
    let weight : Rec → ℕ = λ x. weigh h (additive.each x) in
    let made : (ys : List Rec) → weigh h (make ys) ≡ weigh weight ys = λ ys. (additive.is ys).by h ∙ weigh-flat_map h additive.each ys in
    total-same k (λ j. weigh h (make (columns j))) (λ j. weigh weight (columns j)) (λ j below. made (columns j))
    ∙ total-weigh-columns are weight
    ∙ together weight
    ∙ sym (made xs)

-- a Keyed node, to which the records come by its own field
module _ {N : Type 0} (b : Behaviour N) (f : ℕ) (o : N) (keys : GoesByKeys b f o) (counts : GoesByCounts b o) (k : ℕ) (some : 1 ≤ k) where
  at_places : (n : ℕ) (rows columns : ℕ → List Rec) (deals merges : ℕ → List ℕ) (xs : List Rec) → AreColumns n k rows deals columns merges → IsByRoute (By f) k rows deals
      → ((h : Rec → ℕ) → total n (λ j. weigh h (rows j)) ≡ weigh h xs) → (h : Rec → ℕ)
      → (total k (λ j. weigh h (node b o (columns j))) ≡ weigh h (node b o xs)) × (total k (λ j. weigh h (node_rejected b o (columns j))) ≡ weigh h (node_rejected b o xs))
  at_places n rows columns deals merges xs are by together h =
      let by_keys : AreColumns n k rows (λ j. by_key f k (rows j)) columns merges = subst (λ picks. AreColumns n k rows picks columns merges) by are in
      keyed_places b f o keys counts k xs some columns (Same-column-by_key f xs by_keys together) h

  pub AddsUp-node : AddsUp (By f) k (node b o)
  AddsUp-node n rows columns deals merges xs are by together h = (at_places n rows columns deals merges xs are by together h).0

  pub AddsUp-node_rejected : AddsUp (By f) k (node_rejected b o)
  AddsUp-node_rejected n rows columns deals merges xs are by together h = (at_places n rows columns deals merges xs are by together h).1
