-- What a block is after two fields changed places.
use Rattle.std.proofs.Common.{◌≡◌, ℕ, suc, ◌+◌, ◌-◌, ◌<◌, ◌≤◌, List, [], ◌∷◌, ◌++◌, length, take, drop, get_or, set, slice_range, sym, ap, ap₂, ◌∙◌, subst, append_assoc, add-one, arith, length-append, length-drop}
use Rattle.std.specs.List.{AllByRecursion, swap}
use Rattle.std.proofs.lemmas.List.{drop_at, take-take, length-take-le, drop_more, get_or-take, get_or_default, set_at, set_comm, set-get_or, take-append-drop}
use Rattle.std.proofs.lemmas.List.Edits.{swap_is, length-swap}
use Rattle.std.proofs.lemmas.Slice.{between_is}
use Rattle.ff_rec.specs.Lines.{IsPlain, cut, behind}
use Rattle.ff_rec.specs.Pieces.{Lacks}
use Rattle.ff_rec.specs.Block.{IsBlock, IsPlace, before}
use Rattle.ff_rec.proofs.Cuts.{cut-split}
use Rattle.ff_rec.proofs.Joins.{cut-joined, cut-before, Lacks-cut}
use Rattle.ff_rec.proofs.Places.{before-append, AllByRecursion-take, AllByRecursion-drop, AllByRecursion-set}
use Rattle.ff_rec.proofs.Edits.{AllByRecursion-get_or}

module _ {X : Type 0} where
  -- a list round its element `i`
  take-element-drop : (xs : List X) (i : ℕ) (d : X) → i < length xs → xs ≡ take i xs ++ get_or xs i d ∷ drop (suc i) xs
  take-element-drop xs i d below = sym (take-append-drop i xs) ∙ ap (λ (q : List X). take i xs ++ q) (drop_more xs i d below ∙ ap (λ (n : ℕ). get_or xs i d ∷ drop n xs) (add-one i))

  -- two elements of a list that is laid out round them
  swap-laid_out : (xs ps ms qs : List X) (x y : X) (i j : ℕ) → xs ≡ ps ++ x ∷ (ms ++ y ∷ qs) → length ps ≡ i → suc i + length ms ≡ j → get_or xs i x ≡ x → get_or xs j x ≡ y
      → i < length xs → j < length xs → swap xs i j ≡ ps ++ y ∷ (ms ++ x ∷ qs)
  swap-laid_out xs ps ms qs x y i j laid at_i at_j is_x is_y in_i in_j =
      let first : set xs i y ≡ (ps ++ y ∷ ms) ++ y ∷ qs =
      ap (λ (q : List X). set q i y) laid ∙ set_at ps x (ms ++ y ∷ qs) y i at_i ∙ sym (append_assoc ps (y ∷ ms) (y ∷ qs)) in
      sym (swap_is xs i j x in_i in_j)
      ∙ ap₂ (λ (u v : X). set (set xs i u) j v) is_y is_x
      ∙ ap (λ (q : List X). set q j x) first
      ∙ set_at (ps ++ y ∷ ms) y qs x j (omega (arith, length-append ps (y ∷ ms)))
      ∙ append_assoc ps (y ∷ ms) (x ∷ qs)

  -- an element in its own place
  pub swap-same : (xs : List X) (i : ℕ) (d : X) → i < length xs → swap xs i i ≡ xs
  swap-same xs i d below = sym (swap_is xs i i d below below) ∙ ap (λ (q : List X). set q i (get_or xs i d)) (set-get_or xs i d) ∙ set-get_or xs i d

  -- in either order
  pub swap-comm : (xs : List X) (i j : ℕ) (d : X) → i < length xs → j < length xs → (i ≡ j → ⊥) → swap xs i j ≡ swap xs j i
  swap-comm xs i j d in_i in_j other =
      sym (swap_is xs i j d in_i in_j) ∙ set_comm xs i j (get_or xs j d) (get_or xs i d) other ∙ swap_is xs j i d in_j in_i

-- two pieces of a block, and what stands between them
module _ (b : List ℕ) (i s e j t u : ℕ) (p : IsPlace b i s e) (q : IsPlace b j t u) (order : i < j) (below : j < length (cut 9 b)) where
  front : take t b ≡ (take s b ++ slice_range b s e) ++ 9 ∷ before (drop (suc i) (take j (cut 9 b)))
  front =
      let ps = cut 9 b in
      let long : length (take j ps) ≡ j = length-take-le j ps (omega arith) in
      let shape : take j ps ≡ take i ps ++ slice_range b s e ∷ drop (suc i) (take j ps) =
      take-element-drop (take j ps) i [] (omega arith)
      ∙ ap₂ (λ (x : List (List ℕ)) (y : List ℕ). x ++ y ∷ drop (suc i) (take j ps)) (take-take i j ps (omega arith)) (get_or-take j ps i [] order ∙ sym p.here) in
      q.front ∙ ap before shape ∙ before-append (take i ps) (slice_range b s e ∷ drop (suc i) (take j ps))
      ∙ ap (λ (x : List ℕ). x ++ (slice_range b s e ++ 9 ∷ before (drop (suc i) (take j ps)))) (sym p.front)
      ∙ sym (append_assoc (take s b) (slice_range b s e) (9 ∷ before (drop (suc i) (take j ps))))

  long-front : length (take s b ++ slice_range b s e) ≡ e
  long-front = omega (
    arith,
    length-append (take s b) (slice_range b s e),
    length-take-le s b (omega (arith, p.order, p.within)),
    length-take-le (e - s) (drop s b) (omega (arith, length-drop s b, p.order, p.within)),
    p.order,
  )

  -- the first ends before the second begins
  pub apart : e < t
  apart = omega (
    arith,
    ap length front,
    length-append (take s b ++ slice_range b s e) (9 ∷ before (drop (suc i) (take j (cut 9 b)))),
    long-front,
    length-take-le t b (omega (arith, q.order, q.within)),
  )

  between-is : slice_range b e t ≡ 9 ∷ before (drop (suc i) (take j (cut 9 b)))
  between-is = between_is b e t ∙ ap (drop e) front ∙ drop_at (take s b ++ slice_range b s e) (9 ∷ before (drop (suc i) (take j (cut 9 b)))) e long-front

  pieces : cut 9 b ≡ take i (cut 9 b) ++ get_or (cut 9 b) i [] ∷ (drop (suc i) (take j (cut 9 b)) ++ get_or (cut 9 b) j [] ∷ drop (suc j) (cut 9 b))
  pieces =
      let ps = cut 9 b in
      let long : length (take j ps) ≡ j = length-take-le j ps (omega arith) in
      let rest = get_or ps j [] ∷ drop (suc j) ps in
      take-element-drop ps j [] below
      ∙ ap (λ (x : List (List ℕ)). x ++ rest) (take-element-drop (take j ps) i [] (omega arith))
      ∙ append_assoc (take i (take j ps)) (get_or (take j ps) i [] ∷ drop (suc i) (take j ps)) rest
      ∙ ap₂ (λ (x : List (List ℕ)) (y : List ℕ). x ++ y ∷ (drop (suc i) (take j ps) ++ rest)) (take-take i j ps (omega arith)) (get_or-take j ps i [] order)

  -- the second piece, what stands between, and the first piece, in the place of both
  pub cut-swapped : cut 9 (take s b ++ ((slice_range b t u ++ (slice_range b e t ++ slice_range b s e)) ++ drop u b)) ≡ swap (cut 9 b) i j
  cut-swapped =
      let ps = cut 9 b in
      let clean = Lacks-cut 9 b in
      let x = get_or ps i [] in
      let y = get_or ps j [] in
      let ms = drop (suc i) (take j ps) in
      let qs = drop (suc j) ps in
      let in_i : i < length ps = omega arith in
      let clean_x : Lacks 9 x = AllByRecursion-get_or (Lacks 9) ps i [] in_i clean in
      let clean_y : Lacks 9 y = AllByRecursion-get_or (Lacks 9) ps j [] below clean in
      let clean_ms : AllByRecursion (Lacks 9) ms = AllByRecursion-drop (Lacks 9) (suc i) (take j ps) (AllByRecursion-take (Lacks 9) j ps clean) in
      let shape : take s b ++ ((slice_range b t u ++ (slice_range b e t ++ slice_range b s e)) ++ drop u b) ≡ before (take i ps) ++ (y ++ 9 ∷ (before ms ++ (x ++ behind qs))) =
      ap₂ (λ (h r : List ℕ). h ++ ((slice_range b t u ++ (slice_range b e t ++ slice_range b s e)) ++ r)) p.front q.back
      ∙ ap₂ (λ (h r : List ℕ). before (take i ps) ++ ((h ++ (slice_range b e t ++ r)) ++ behind qs)) q.here p.here
      ∙ ap (λ (h : List ℕ). before (take i ps) ++ ((y ++ (h ++ x)) ++ behind qs)) between-is
      ∙ ap (λ (h : List ℕ). before (take i ps) ++ h) (append_assoc y (9 ∷ (before ms ++ x)) (behind qs))
      ∙ ap (λ (h : List ℕ). before (take i ps) ++ (y ++ 9 ∷ h)) (append_assoc (before ms) x (behind qs)) in
      ap (cut 9) shape
      ∙ cut-before (take i ps) (y ++ 9 ∷ (before ms ++ (x ++ behind qs))) (AllByRecursion-take (Lacks 9) i ps clean)
      ∙ ap (λ (h : List (List ℕ)). take i ps ++ h) (
      cut-split 9 y (before ms ++ (x ++ behind qs)) clean_y
      ∙ ap (λ (h : List (List ℕ)). y ∷ h) (
      cut-before ms (x ++ behind qs) clean_ms
      ∙ ap (λ (h : List (List ℕ)). ms ++ h) (cut-joined x qs clean_x (AllByRecursion-drop (Lacks 9) (suc j) ps clean))))
      ∙ sym (swap-laid_out ps (take i ps) ms qs x y i j pieces (length-take-le i ps (omega arith))
      (omega (arith, length-drop (suc i) (take j ps), length-take-le j ps (omega arith)))
      (get_or_default ps i x [] in_i) (get_or_default ps j x [] below) in_i below)

-- a block whose pieces changed places stays one
pub IsBlock-swapped : (b c : List ℕ) (n i j : ℕ) → IsBlock b n → i < length (cut 9 b) → j < length (cut 9 b) → cut 9 c ≡ swap (cut 9 b) i j → IsBlock c n
IsBlock-swapped b c n i j h in_i in_j e =
    let ps = cut 9 b in
    let x = get_or ps i [] in
    let y = get_or ps j [] in
    let plain_x = AllByRecursion-get_or IsPlain ps i [] in_i h.plain in
    let plain_y = AllByRecursion-get_or IsPlain ps j [] in_j h.plain in
    let long = ap length e ∙ length-swap ps i j in
    record {
      counted = h.counted ∙ sym long;
      few = subst (λ (m : ℕ). m ≤ 64) (sym long) h.few;
      plain = subst (AllByRecursion IsPlain) (swap_is ps i j [] in_i in_j ∙ sym e)
          (AllByRecursion-set IsPlain (set ps i y) j x plain_x (AllByRecursion-set IsPlain ps i y plain_y h.plain));
    }
