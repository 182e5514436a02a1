-- The rows of a network's plan are wired.
use Rattle.std.proofs.Common.{◌≡◌, ℕ, ◌<◌, List, [], ◌∷◌, length, map, slice_index, refl, sym, ap, subst}
use Rattle.std.proofs.lemmas.List.{length-map, get_or-map}
use Rattle.ff_net.specs.Counts.{edges}
use Rattle.ff_net.specs.Tree.{Tree}
use Rattle.ff_plan.specs.Plans.{rows_of}
use Rattle.ff_plan.specs.Rows.{Row as PlanRow}
use Rattle.ff_plan.specs.WiringLaws.{IsPort, IsJoined, all_ins, all_outs}
use Rattle.ff_steps.specs.NetCores.{port_row, port_rows}
use Rattle.ff_steps.specs.Wiring.{Row, row_at, IsWired, all_rows}

-- the ins of all parties, and their outs
all_ins-rows : (rows : List PlanRow) → map (λ (r : Row). r.ins) (all_rows (map port_row rows)) ≡ all_ins rows
all_ins-rows [] = refl
all_ins-rows (row ∷ rows) = ap (λ l. row.ins ∷ l) (all_ins-rows rows)

all_outs-rows : (rows : List PlanRow) → map (λ (r : Row). r.outs) (all_rows (map port_row rows)) ≡ all_outs rows
all_outs-rows [] = refl
all_outs-rows (row ∷ rows) = ap (λ l. row.outs ∷ l) (all_outs-rows rows)

-- a port of a party
IsPort-row : (side : Row → List ℕ) (rows : List Row) (ports : List (List ℕ)) → map side rows ≡ ports → (p i : ℕ) → p < length rows → i < length (side (row_at rows p))
    → IsPort ports (slice_index (side (row_at rows p)) i) p i
IsPort-row side rows ports is p i low i_low =
    let there = get_or-map side rows p (record { ins = []; outs = [] }) [] low in
    subst (λ l. IsPort l (slice_index (side (row_at rows p)) i) p i) is (record {
      party = subst (λ n. p < n) (sym (length-map rows side)) low;
      port = subst (λ l. i < length l) (sym there) i_low;
      edge = ap (λ l. slice_index l i) there;
    })

module _ {N : Type 0} (t : Tree N) (joined : IsJoined t) where
  abbrev rows : List Row
  rows = all_rows (port_rows t)

  in_port : (p i : ℕ) → p < length (all_rows (port_rows t)) → i < length (row_at (all_rows (port_rows t)) p).ins
      → IsPort (all_ins (rows_of t)) (slice_index (row_at (all_rows (port_rows t)) p).ins i) p i
  in_port p i low i_low = IsPort-row (λ r. r.ins) rows (all_ins (rows_of t)) (all_ins-rows (rows_of t)) p i low i_low

  out_port : (p i : ℕ) → p < length (all_rows (port_rows t)) → i < length (row_at (all_rows (port_rows t)) p).outs
      → IsPort (all_outs (rows_of t)) (slice_index (row_at (all_rows (port_rows t)) p).outs i) p i
  out_port p i low i_low = IsPort-row (λ r. r.outs) rows (all_outs (rows_of t)) (all_outs-rows (rows_of t)) p i low i_low

  pub IsWired-net : IsWired (all_rows (port_rows t)) (edges t)
  IsWired-net = record {
    ins_within = λ p i low i_low. joined.readers.within (slice_index (row_at rows p).ins i) p i (in_port p i low i_low);
    outs_within = λ p i low i_low. joined.writers.within (slice_index (row_at rows p).outs i) p i (out_port p i low i_low);
    one_reader = λ p q i j p_low q_low i_low j_low same.
        joined.readers.once (slice_index (row_at rows p).ins i) p q i j (in_port p i p_low i_low)
        (subst (λ e. IsPort (all_ins (rows_of t)) e q j) (sym same) (in_port q j q_low j_low));
    one_writer = λ p q i j p_low q_low i_low j_low same.
        joined.writers.once (slice_index (row_at rows p).outs i) p q i j (out_port p i p_low i_low)
        (subst (λ e. IsPort (all_outs (rows_of t)) e q j) (sym same) (out_port q j q_low j_low));
    no_loop = λ p i j low i_low j_low same.
        joined.apart (slice_index (row_at rows p).ins i) p i j (in_port p i low i_low)
        (subst (λ e. IsPort (all_outs (rows_of t)) e p j) (sym same) (out_port p j low j_low));
  }
