-- The edges of a plan: how many there are, and how much their rings hold.
use Rattle.std.proofs.Common.{◌≡◌, ◌≤◌, ℕ, zero, suc, Bool, true, false, List, [], ◌∷◌, length, map, refl, ap, ◌∙◌, arith}
use Rattle.std.specs.List.{All}
use Rattle.std.proofs.lemmas.List.{length-map}
use Rattle.std.proofs.lemmas.List.Elements.{All-nil, All-cons}
use Rattle.std.specs.Prelude.{if◌then◌else◌}
use Rattle.ff_plan.specs.Plans.{edge_of, is_on_demand}
use Rattle.ff_plan.specs.Rows.{Row, range}
use Rattle.ff_plan.specs.declared.kind.Queue.{Queue}
use Rattle.ff_plan.specs.declared.layout.Edge.{Edge}
use Rattle.ff_engine.specs.RingSizes.{size_for}

length-range : (e n : ℕ) → length (range e n) ≡ n
length-range e zero = refl
length-range e (suc n) = ap suc (length-range (suc e) n)

module _ (rows : List Row) (cap : ℕ) (queue : Queue) where
  pub length-edges : (n : ℕ) → length (map (edge_of rows cap queue) (range 0 n)) ≡ n
  length-edges n = length-map (range 0 n) (edge_of rows cap queue) ∙ length-range 0 n

  -- how much the rings of these edges hold
  sizes-each : (es : List ℕ) → map (λ (edge : Edge). size_for edge.cap) (map (edge_of rows cap queue) es) ≡ map (λ e. size_for (edge_of rows cap queue e).cap) es
  sizes-each [] = refl
  sizes-each (e ∷ es) = ap (λ sizes. size_for (edge_of rows cap queue e).cap ∷ sizes) (sizes-each es)

  pub sizes-edges : (n : ℕ) → map (λ (edge : Edge). size_for edge.cap) (map (edge_of rows cap queue) (range 0 n)) ≡ map (λ e. size_for (edge_of rows cap queue e).cap) (range 0 n)
  sizes-edges n = sizes-each (range 0 n)

  pub low-caps : 1 ≤ cap → (es : List ℕ) → All (λ (edge : Edge). 1 ≤ edge.cap) (map (edge_of rows cap queue) es)
  low-caps low [] = All-nil (λ (edge : Edge). 1 ≤ edge.cap)
  low-caps low (e ∷ es) =
      All-cons (λ (edge : Edge). 1 ≤ edge.cap) (edge_of rows cap queue e) (map (edge_of rows cap queue) es) (low-either (is_on_demand rows e)) (low-caps low es)
    where
      low-either : (b : Bool) → 1 ≤ (if b then 1 else cap)
      low-either true = omega arith
      low-either false = low

  pub high-caps : cap ≤ 4096 → (es : List ℕ) → All (λ (edge : Edge). edge.cap ≤ 4096) (map (edge_of rows cap queue) es)
  high-caps high [] = All-nil (λ (edge : Edge). edge.cap ≤ 4096)
  high-caps high (e ∷ es) =
      All-cons (λ (edge : Edge). edge.cap ≤ 4096) (edge_of rows cap queue e) (map (edge_of rows cap queue) es) (high-either (is_on_demand rows e)) (high-caps high es)
    where
      high-either : (b : Bool) → (if b then 1 else cap) ≤ 4096
      high-either true = omega arith
      high-either false = high
