-- The units of an all-to-all one by one: the copies of its sets, and the deals and merges between them.
use Rattle.std.proofs.Common.{◌≡◌, ℕ, zero, suc, ◌+◌, ◌*◌, ◌<◌, true, List, [], ◌∷◌, ◌++◌, refl, ap, ◌∙◌, subst, arith}
use Rattle.ff_node.specs.Behaviour.{Behaviour}
use Rattle.ff_node.specs.Runs.{Message}
use Rattle.ff_net.specs.declared.net.Route.{Route}
use Rattle.ff_net.specs.declared.net.Route.TheVariants.{Rr, Od, By}
use Rattle.ff_net.specs.Logs.{Event}
use Rattle.ff_net.specs.RuleTests.{is_node}
use Rattle.ff_net.specs.Tree.{Tree, Leaf, Pipe, Comb, Farm, OFarm, A2a, Wrap}
use Rattle.ff_plan.specs.declared.kind.UnitKind.{UnitKind}
use Rattle.ff_plan.specs.declared.kind.UnitKind.TheVariants.{Stage, Merge}
use Rattle.ff_plan.specs.Histories.{all_rejected}
use Rattle.ff_plan.specs.Laying.{copies, row_deals, column_merges, route_kind, lay, lay_copies}
use Rattle.ff_plan.specs.Rows.{Laid, laid, range, stride}
use Rattle.ff_plan.proofs.Copies.{onto}
use Rattle.ff_plan.proofs.EdgeLists.{suc-times}
use Rattle.ff_plan.proofs.Opens.{View, Known, KnownOf}

-- a value for each place, all at once
pub record Chosen {A : Type 0} (P : ℕ → A → Type 0) (n : ℕ) : Type 0 where
  pub value : ℕ → A
  pub each : (j : ℕ) → j < n → P j (value j)

-- where there is one for each place; `other` stands at the places behind them
pub choose : {A : Type 0} (P : ℕ → A → Type 0) (n : ℕ) (other : A) → ((j : ℕ) → j < n → (a : A) × P j a) → Chosen P n
choose {A} P zero other some = record { value = λ j. other; each = λ j below. absurd (omega (arith, below)) }
choose {A} P (suc n) other some =
    let first = some 0 (omega arith) in
    let rest = choose (λ j. P (suc j)) n other (λ j below. some (suc j) (omega (arith, below))) in
    record { value = onto first.0 rest.value; each = each first rest }
  where
    each : (first : (a : A) × P 0 a) (rest : Chosen (λ j. P (suc j)) n) (j : ℕ) → j < suc n → P j (onto first.0 rest.value j)
    each first rest zero below = first.1
    each first rest (suc j) below = rest.each j (omega (arith, below))

module _ {N : Type 0} (place : List ℕ) where
  -- one node, or several that run as one, are a stage
  pub lay-node : (t : Tree N) → is_node t ≡ true → (i o e : ℕ) → lay place t i o e ≡ laid Stage (i ∷ []) (o ∷ []) place t ∷ []
  lay-node (Leaf n) is i o e = refl
  lay-node (Comb ts) is i o e = refl
  lay-node (Pipe ts) is i o e = absurd (cc is)
  lay-node (Farm n s w) is i o e = absurd (cc is)
  lay-node (OFarm n s w) is i o e = absurd (cc is)
  lay-node (A2a n l r m t) is i o e = absurd (cc is)
  lay-node (Wrap n w p) is i o e = absurd (cc is)

  -- and copies of them are networks side by side
  pub lay_copies-node : (t : Tree N) → is_node t ≡ true → (width i o e n : ℕ) → lay_copies (lay place t) width i o e n ≡ copies Stage place t i o n
  lay_copies-node t is width i o e zero = refl
  lay_copies-node t is width i o e (suc n) =
      let rest = lay_copies (lay place t) width (suc i) (suc o) (e + width) n in
      ap (λ (ls : List (Laid N)). ls ++ rest) (lay-node t is i o e)
      ∙ ap (λ (ls : List (Laid N)). laid Stage (i ∷ []) (o ∷ []) place t ∷ ls) (lay_copies-node t is width (suc i) (suc o) (e + width) n)

module _ {N : Type 0} (b : Behaviour N) (m : ℕ) (v : View N) (place : List ℕ) (t : Tree N) where
  -- the deal of row j
  pub known_row : (kind : UnitKind) (k i c n : ℕ) (logs : List (List Event)) → Known b m v (row_deals kind place t k i c n) logs → (j : ℕ) → j < n
      → (log : List Event) × KnownOf b m v kind (laid kind ((i + j) ∷ []) (range (c + j * k) k) place t) log
  known_row kind k i c zero logs known j below = absurd (omega (arith, below))
  known_row kind k i c (suc n) [] known j below = absurd known
  known_row kind k i c (suc n) (log ∷ logs) known zero below =
      let is_i : i ≡ i + 0 = omega arith in
      let is_c : c ≡ c + 0 * k = omega arith in (
        log,
        subst (λ e. KnownOf b m v kind (laid kind (e ∷ []) (range (c + 0 * k) k) place t) log) is_i
            (subst (λ e. KnownOf b m v kind (laid kind (i ∷ []) (range e k) place t) log) is_c known.0),
      )
  known_row kind k i c (suc n) (log ∷ logs) known (suc j) below =
      let is_i : suc i + j ≡ i + suc j = omega arith in
      let is_c : c + k + j * k ≡ c + suc j * k = omega (arith, suc-times j k) in
      let rest = known_row kind k (suc i) (c + k) n logs known.1 j (omega (arith, below)) in (
        rest.0,
        subst (λ e. KnownOf b m v kind (laid kind (e ∷ []) (range (c + suc j * k) k) place t) rest.0) is_i
            (subst (λ e. KnownOf b m v kind (laid kind ((suc i + j) ∷ []) (range e k) place t) rest.0) is_c rest.1),
      )

  -- the merge of column j
  pub known_column : (n k c d l : ℕ) (logs : List (List Event)) → Known b m v (column_merges place t n k c d l) logs → (j : ℕ) → j < l
      → (log : List Event) × KnownOf b m v Merge (laid Merge (stride k (c + j) n) ((d + j) ∷ []) place t) log
  known_column n k c d zero logs known j below = absurd (omega (arith, below))
  known_column n k c d (suc l) [] known j below = absurd known
  known_column n k c d (suc l) (log ∷ logs) known zero below =
      let is_c : c ≡ c + 0 = omega arith in
      let is_d : d ≡ d + 0 = omega arith in (
        log,
        subst (λ e. KnownOf b m v Merge (laid Merge (stride k e n) ((d + 0) ∷ []) place t) log) is_c
            (subst (λ e. KnownOf b m v Merge (laid Merge (stride k c n) (e ∷ []) place t) log) is_d known.0),
      )
  known_column n k c d (suc l) (log ∷ logs) known (suc j) below =
      let is_c : suc c + j ≡ c + suc j = omega arith in
      let is_d : suc d + j ≡ d + suc j = omega arith in
      let rest = known_column n k (suc c) (suc d) l logs known.1 j (omega (arith, below)) in (
        rest.0,
        subst (λ e. KnownOf b m v Merge (laid Merge (stride k e n) ((d + suc j) ∷ []) place t) rest.0) is_c
            (subst (λ e. KnownOf b m v Merge (laid Merge (stride k (suc c + j) n) (e ∷ []) place t) rest.0) is_d rest.1),
      )

-- the deals and merges between the sets reject nothing
module _ {N : Type 0} (b : Behaviour N) (place : List ℕ) (t : Tree N) (edge : ℕ → List Message) where
  pub rejected-row_deals : (r : Route) (k i c n : ℕ) → all_rejected b (row_deals (route_kind r) place t k i c n) edge ≡ []
  rejected-row_deals r k i c zero = refl
  rejected-row_deals Rr k i c (suc n) = rejected-row_deals Rr k (suc i) (c + k) n
  rejected-row_deals Od k i c (suc n) = rejected-row_deals Od k (suc i) (c + k) n
  rejected-row_deals (By f) k i c (suc n) = rejected-row_deals (By f) k (suc i) (c + k) n

  pub rejected-column_merges : (n k c d l : ℕ) → all_rejected b (column_merges place t n k c d l) edge ≡ []
  rejected-column_merges n k c d zero = refl
  rejected-column_merges n k c d (suc l) = rejected-column_merges n k (suc c) (suc d) l
