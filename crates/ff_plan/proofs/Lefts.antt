-- What is left of a row of things that are alike, when one more is done.
use Rattle.std.proofs.Common.{◌≡◌, ℕ, suc, ◌+◌, ◌-◌, ◌*◌, ◌<◌, ◌≤◌, ◌==◌, if◌then◌else◌, List, [], ◌∷◌, ◌++◌, map, refl, ap, sym, ◌∙◌, append_assoc, arith}
use Rattle.std.proofs.lemmas.Bool.{eq-eqb, ne_eqb}
use Rattle.std.proofs.lemmas.List.{map-append, append-nil}
use Rattle.ff_plan.specs.declared.kind.UnitKind.{UnitKind}
use Rattle.ff_plan.specs.declared.kind.UnitKind.TheVariants.{Merge}
use Rattle.ff_plan.specs.Rows.{Laid, range, stride}
use Rattle.ff_net.specs.Counts.{count, inner_edges}
use Rattle.ff_net.specs.Places.{child}
use Rattle.ff_net.specs.Tree.{Tree, Trees, none, more}
use Rattle.ff_plan.specs.Laying.{lay, lay_parts, lay_copies}
use Rattle.ff_plan.specs.AlikeRows.{row_of, copied_rows, deal_rows, merge_rows}

-- one of those that are left
pub left-one : (k n : ℕ) → k < n → n - k ≡ suc (n - (k + 1))
left-one k n h = omega arith

pub left-times : (k n w : ℕ) → k < n → (n - k) * w ≡ w + (n - (k + 1)) * w
left-times k n w h = ap (λ m. m * w) (left-one k n h) ∙ omega arith

pub stride-left : (step e k n : ℕ) → k < n → stride step e (n - k) ≡ e ∷ stride step (e + step) (n - (k + 1))
stride-left step e k n h = ap (stride step e) (left-one k n h)

pub copied_rows-left : (kind : UnitKind) (at : List ℕ) (i o k n : ℕ) → k < n
    → copied_rows kind at (i + k) (o + k) (n - k) ≡ row_of kind ((i + k) ∷ []) ((o + k) ∷ []) at ∷ copied_rows kind at (i + (k + 1)) (o + (k + 1)) (n - (k + 1))
copied_rows-left kind at i o k n h =
    let ins : suc (i + k) ≡ i + (k + 1) = omega arith in
    let outs : suc (o + k) ≡ o + (k + 1) = omega arith in
    ap (copied_rows kind at (i + k) (o + k)) (left-one k n h)
    ∙ ap (λ j. row_of kind ((i + k) ∷ []) ((o + k) ∷ []) at ∷ copied_rows kind at j (suc (o + k)) (n - (k + 1))) ins
    ∙ ap (λ j. row_of kind ((i + k) ∷ []) ((o + k) ∷ []) at ∷ copied_rows kind at (i + (k + 1)) j (n - (k + 1))) outs

pub deal_rows-left : (kind : UnitKind) (at : List ℕ) (m b c k n : ℕ) → k < n
    → deal_rows kind at m (b + k) c (n - k) ≡ row_of kind ((b + k) ∷ []) (range c m) at ∷ deal_rows kind at m (b + (k + 1)) (c + m) (n - (k + 1))
deal_rows-left kind at m b c k n h =
    let ins : suc (b + k) ≡ b + (k + 1) = omega arith in
    ap (deal_rows kind at m (b + k) c) (left-one k n h)
    ∙ ap (λ j. row_of kind ((b + k) ∷ []) (range c m) at ∷ deal_rows kind at m j (c + m) (n - (k + 1))) ins

pub merge_rows-left : (at : List ℕ) (n m c d k w : ℕ) → k < w
    → merge_rows at n m (c + k) (d + k) (w - k) ≡ row_of Merge (stride m (c + k) n) ((d + k) ∷ []) at ∷ merge_rows at n m (c + (k + 1)) (d + (k + 1)) (w - (k + 1))
merge_rows-left at n m c d k w h =
    let ins : suc (c + k) ≡ c + (k + 1) = omega arith in
    let outs : suc (d + k) ≡ d + (k + 1) = omega arith in
    ap (merge_rows at n m (c + k) (d + k)) (left-one k w h)
    ∙ ap (λ j. row_of Merge (stride m (c + k) n) ((d + k) ∷ []) at ∷ merge_rows at n m j (suc (d + k)) (w - (k + 1))) ins
    ∙ ap (λ j. row_of Merge (stride m (c + k) n) ((d + k) ∷ []) at ∷ merge_rows at n m (c + (k + 1)) j (w - (k + 1))) outs

pub range-to : (e end : ℕ) → e < end → range e (end - e) ≡ e ∷ range (e + 1) (end - (e + 1))
range-to e end h =
    let one : end - e ≡ suc (end - (e + 1)) = omega arith in
    let step : suc e ≡ e + 1 = omega arith in
    ap (range e) one ∙ ap (λ f. e ∷ range f (end - (e + 1))) step

-- the last of some, and one that isn't
pub chosen-last : (k n to j out left : ℕ) → out ≡ (if k == n then to else j) → left ≡ n - k → k ≤ n → left ≡ 0 → out ≡ to
chosen-last k n to j out left is some within none-left =
    let same : k ≡ n = omega arith in
    is ∙ ap (λ b. if b then to else j) (eq-eqb k n same)

pub chosen-other : (k n to j out left : ℕ) → out ≡ (if k == n then to else j) → left ≡ n - k → 1 ≤ left → out ≡ j
chosen-other k n to j out left is some one-left =
    let differ : k ≡ n → ⊥ = λ (same : k ≡ n). omega arith in
    is ∙ ap (λ b. if b then to else j) (ne_eqb k n differ)

-- what is done and what is left stay the whole, when the first of what is left is done
pub done-one : {A : Type 0} (done now left rest whole : List A) (x : A) → done ++ left ≡ whole → left ≡ x ∷ rest → now ≡ done ++ x ∷ [] → now ++ rest ≡ whole
done-one done now left rest whole x both first added =
    ap (λ xs. xs ++ rest) added ∙ append_assoc done (x ∷ []) rest ∙ ap (λ xs. done ++ xs) (sym first) ∙ both

pub done-some : {A : Type 0} (done now left rest whole xs : List A) → done ++ left ≡ whole → left ≡ xs ++ rest → now ≡ done ++ xs → now ++ rest ≡ whole
done-some done now left rest whole xs both first added =
    ap (λ ys. ys ++ rest) added ∙ append_assoc done xs rest ∙ ap (λ ys. done ++ ys) (sym first) ∙ both

module _ {N : Type 0} where
  pub lay_copies-left : (one : ℕ → ℕ → ℕ → List (Laid N)) (width i o e k n : ℕ) → k < n
      → lay_copies one width (i + k) (o + k) e (n - k) ≡ one (i + k) (o + k) e ++ lay_copies one width (i + (k + 1)) (o + (k + 1)) (e + width) (n - (k + 1))
  lay_copies-left one width i o e k n h =
      let ins : suc (i + k) ≡ i + (k + 1) = omega arith in
      let outs : suc (o + k) ≡ o + (k + 1) = omega arith in
      ap (lay_copies one width (i + k) (o + k) e) (left-one k n h)
      ∙ ap (λ j. one (i + k) (o + k) e ++ lay_copies one width j (suc (o + k)) (e + width) (n - (k + 1))) ins
      ∙ ap (λ j. one (i + k) (o + k) e ++ lay_copies one width (i + (k + 1)) j (e + width) (n - (k + 1))) outs

  -- the rows of the first of those that are left, and of the others
  pub map-lay_copies-left : (one : ℕ → ℕ → ℕ → List (Laid N)) (width i o e k n : ℕ) → k < n
      → map (λ (l : Laid N). l.row) (lay_copies one width (i + k) (o + k) e (n - k))
      ≡ map (λ (l : Laid N). l.row) (one (i + k) (o + k) e) ++ map (λ (l : Laid N). l.row) (lay_copies one width (i + (k + 1)) (o + (k + 1)) (e + width) (n - (k + 1)))
  map-lay_copies-left one width i o e k n h =
      ap (map (λ (l : Laid N). l.row)) (lay_copies-left one width i o e k n h)
      ∙ map-append (λ (l : Laid N). l.row) (one (i + k) (o + k) e) (lay_copies one width (i + (k + 1)) (o + (k + 1)) (e + width) (n - (k + 1)))

  -- the parts of a pipe: the last one writes the edge that the pipe does, each other one the next edge between two parts
  pub lay_parts-more : (at : List ℕ) (k : ℕ) (t : Tree N) (ts : Trees N) (i o j e to : ℕ) → (count ts ≡ 0 → to ≡ o) → (1 ≤ count ts → to ≡ j)
      → lay_parts at k (more t ts) i o j e ≡ lay (child at k) t i to e ++ lay_parts at (k + 1) ts to o (suc j) (e + inner_edges t)
  lay_parts-more at k t none i o j e to last other =
      ap (λ p. lay (child at k) t i p e) (sym (last refl)) ∙ sym (append-nil (lay (child at k) t i to e))
  lay_parts-more at k t (more u us) i o j e to last other =
      let some : 1 ≤ count us + 1 = omega arith in
      ap (λ p. lay (child at k) t i p e ++ lay_parts at (k + 1) (more u us) p o (suc j) (e + inner_edges t)) (sym (other some))

  -- the rows of the first of those parts, and of the others
  pub map-lay_parts-more : (at : List ℕ) (k : ℕ) (t : Tree N) (ts : Trees N) (i o j e to : ℕ) → (count ts ≡ 0 → to ≡ o) → (1 ≤ count ts → to ≡ j)
      → map (λ (l : Laid N). l.row) (lay_parts at k (more t ts) i o j e)
      ≡ map (λ (l : Laid N). l.row) (lay (child at k) t i to e) ++ map (λ (l : Laid N). l.row) (lay_parts at (k + 1) ts to o (suc j) (e + inner_edges t))
  map-lay_parts-more at k t ts i o j e to last other =
      ap (map (λ (l : Laid N). l.row)) (lay_parts-more at k t ts i o j e to last other)
      ∙ map-append (λ (l : Laid N). l.row) (lay (child at k) t i to e) (lay_parts at (k + 1) ts to o (suc j) (e + inner_edges t))
