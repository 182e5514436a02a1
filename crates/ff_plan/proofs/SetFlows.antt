-- What goes over the edges of an all-to-all: a deal in turn to the left set, the routes from each of its nodes, the right set,
-- and a merge.
use Rattle.std.proofs.Common.{◌≡◌, ℕ, ◌+◌, ◌<◌, true, false, List, [], ◌∷◌, ◌++◌, length, ap, ap₂, ◌∙◌, subst, append-nil}
use Rattle.ff_rec.specs.Lines.{Rec}
use Rattle.ff_rec.specs.Streams.{carried}
use Rattle.ff_node.specs.Behaviour.{Behaviour}
use Rattle.ff_node.specs.Picks.{share, turns}
use Rattle.ff_node.specs.Runs.{Message}
use Rattle.ff_net.specs.declared.net.Route.{Route}
use Rattle.ff_net.specs.Forms.{has_wrap}
use Rattle.ff_net.specs.Logs.{Event}
use Rattle.ff_net.specs.Places.{child}
use Rattle.ff_net.specs.RuleTests.{is_node}
use Rattle.ff_net.specs.Tree.{Tree}
use Rattle.ff_plan.specs.declared.kind.UnitKind.TheVariants.{Stage, DealRr, Merge}
use Rattle.ff_plan.specs.Histories.{all_rejected}
use Rattle.ff_plan.specs.Laying.{copies, row_deals, column_merges, route_kind, lay_sets}
use Rattle.ff_plan.specs.Rows.{Laid, laid, range}
use Rattle.ff_plan.proofs.Copies.{HaveAnswers, law_copies}
use Rattle.ff_plan.proofs.Dealing.{Deals, Merges, deals_in_turn, merges}
use Rattle.ff_plan.proofs.EdgeLists.{OnRange-at, OnRange-each, AllOn-each}
use Rattle.ff_plan.proofs.MeanPlain.{no_wrap_fine}
use Rattle.ff_plan.proofs.Opens.{View, Known, KnownOf, LawOf}
use Rattle.ff_plan.proofs.Routes.{AreRouted, routed}
use Rattle.ff_plan.proofs.Sets.{lay_copies-node, rejected-row_deals, rejected-column_merges}
use Rattle.ff_plan.proofs.UnitLists.{OnRange, EachUnit-append, EachUnit-one, all_rejected-append, length-range}

-- a set is its node side by side
set_answers : {N : Type 0} (b : Behaviour N) (m : ℕ) (v : View N) (t : Tree N) → is_node t ≡ true → has_wrap t ≡ false → LawOf b m v t
    → (at : List ℕ) (i o n : ℕ) (logs : List (List Event)) (lists : ℕ → List Rec) → Known b m v (copies Stage at t i o n) logs
    → ((j : ℕ) → j < n → v.Out (i + j) (carried (lists j))) → HaveAnswers b m v t (copies Stage at t i o n) o n lists
set_answers {N} b m v t is free law at i o n logs lists known from =
    let taken : OnRange v.In i n (λ j. carried (lists j)) = OnRange-each v.In i n (λ j. carried (lists j)) (λ j below. v.link (i + j) (carried (lists j)) (from j below)) in
    let P : List (Laid N) → Type 0 = λ ls. Known b m v ls logs → HaveAnswers b m v t ls o n lists in
    subst P (lay_copies-node at t is 0 i o 0 n) (λ rows. law_copies b m v t law (no_wrap_fine b m t free) at 0 i o 0 n logs lists rows taken) known

module _ {N : Type 0} (b : Behaviour N) (m : ℕ) (v : View N) (at : List ℕ) (form : Tree N) (n : ℕ) (l : Tree N) (r : Route) (k : ℕ) (t : Tree N) (i o e second third fourth fifth : ℕ) where
  -- what is known of its units
  pub record KnownSets : Type 0 where
    pub deal_log : List Event
    pub deal : KnownOf b m v DealRr (laid DealRr (i ∷ []) (range e n) at form) deal_log
    pub left_logs : List (List Event)
    pub left : Known b m v (copies Stage (child at 1) l e second n) left_logs
    pub row_logs : List (List Event)
    pub rows : Known b m v (row_deals (route_kind r) at form k second third n) row_logs
    pub column_logs : List (List Event)
    pub columns : Known b m v (column_merges at form n k third fourth k) column_logs
    pub right_logs : List (List Event)
    pub right : Known b m v (copies Stage (child at 2) t fourth fifth k) right_logs
    pub merge_log : List Event
    pub merge : KnownOf b m v Merge (laid Merge (range fifth k) (o ∷ []) at form) merge_log

  -- each part of them has its logs
  pub known_sets : (logs : List (List Event)) → Known b m v (lay_sets at form n l (route_kind r) k t i o e second third fourth fifth) logs → KnownSets
  known_sets [] known = absurd known
  known_sets (log ∷ logs) known =
      let lefts = EachUnit-append _ (copies Stage (child at 1) l e second n) _ logs known.1 in
      let rows = EachUnit-append _ (row_deals (route_kind r) at form k second third n) _ lefts.back lefts.right in
      let columns = EachUnit-append _ (column_merges at form n k third fourth k) _ rows.back rows.right in
      let rights = EachUnit-append _ (copies Stage (child at 2) t fourth fifth k) _ columns.back columns.right in
      let last = EachUnit-one (λ l lg. KnownOf b m v l.row.kind l lg) (laid Merge (range fifth k) (o ∷ []) at form) rights.back rights.right in
      record {
        deal_log = log;
        deal = known.0;
        left_logs = lefts.front;
        left = lefts.left;
        row_logs = rows.front;
        rows = rows.left;
        column_logs = columns.front;
        columns = columns.left;
        right_logs = rights.front;
        right = rights.left;
        merge_log = last.0;
        merge = last.1;
      }

  -- what goes over its edges
  pub record Flows (xs : List Rec) : Type 0 where
    pub picks : List ℕ
    pub dealt : Deals v e n picks xs
    pub left : HaveAnswers b m v l (copies Stage (child at 1) l e second n) second n (share picks xs)
    pub middle : AreRouted v r fourth n k left.yss
    pub right : HaveAnswers b m v t (copies Stage (child at 2) t fourth fifth k) fifth k middle.columns
    pub merged : Merges v o k right.yss

  -- each list is carried on from the deal to the last merge
  pub flows : LawOf b m v l → LawOf b m v t → is_node l ≡ true → is_node t ≡ true → has_wrap l ≡ false → has_wrap t ≡ false
      → (xs : List Rec) (known : KnownSets) → v.In i (carried xs) → Flows xs
  flows law_l law_t node_l node_t free_l free_t xs known from =
      let dealt = deals_in_turn b m v at form known.deal_log i e n xs known.deal from in
      let left = set_answers b m v l node_l free_l law_l (child at 1) e second n known.left_logs (share (turns n (length xs)) xs) known.left dealt.out in
      let middle = routed b m v at form r second third fourth n k known.row_logs known.column_logs left.yss known.rows known.columns
      (λ j below. v.link (second + j) (carried (left.yss j)) (OnRange-at v.Out second n (λ j. carried (left.yss j)) left.outs j below)) in
      let right = set_answers b m v t node_t free_t law_t (child at 2) fourth fifth k known.right_logs middle.columns known.right middle.out in
      let brought = AllOn-each v.In fifth k (λ j. carried (right.yss j))
      (λ j below. v.link (fifth + j) (carried (right.yss j)) (OnRange-at v.Out fifth k (λ j. carried (right.yss j)) right.outs j below)) in
      record {
        picks = turns n (length xs);
        dealt = dealt;
        left = left;
        middle = middle;
        right = right;
        merged = merges b m v at form known.merge_log (range fifth k) o k right.yss known.merge (length-range fifth k) brought;
      }

  -- both sets reject, and no other unit does
  pub all_rejected-sets : (edge : ℕ → List Message)
      → all_rejected b (lay_sets at form n l (route_kind r) k t i o e second third fourth fifth) edge
      ≡ all_rejected b (copies Stage (child at 1) l e second n) edge ++ all_rejected b (copies Stage (child at 2) t fourth fifth k) edge
  all_rejected-sets edge =
      let last = laid Merge (range fifth k) (o ∷ []) at form ∷ [] in
      let right = copies Stage (child at 2) t fourth fifth k in
      let columns = column_merges at form n k third fourth k in
      let rows = row_deals (route_kind r) at form k second third n in
      let left = copies Stage (child at 1) l e second n in
      let behind : all_rejected b (right ++ last) edge ≡ all_rejected b right edge = all_rejected-append b right last edge ∙ append-nil (all_rejected b right edge) in
      let middle : all_rejected b (columns ++ (right ++ last)) edge ≡ all_rejected b right edge =
      all_rejected-append b columns (right ++ last) edge ∙ ap₂ ◌++◌ (rejected-column_merges b at form edge n k third fourth k) behind in
      let front : all_rejected b (rows ++ (columns ++ (right ++ last))) edge ≡ all_rejected b right edge =
      all_rejected-append b rows (columns ++ (right ++ last)) edge ∙ ap₂ ◌++◌ (rejected-row_deals b at form edge r k second third n) middle in
      all_rejected-append b left (rows ++ (columns ++ (right ++ last))) edge ∙ ap (λ (back : List Rec). all_rejected b left edge ++ back) front
