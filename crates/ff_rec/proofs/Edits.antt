-- What a block is after a field came or went.
use Rattle.std.proofs.Common.{◌≡◌, ℕ, suc, zero, ◌+◌, ◌-◌, ◌<◌, ◌≤◌, List, [], ◌∷◌, ◌++◌, length, take, drop, get_or, refl, sym, ap, ◌∙◌, subst, append_assoc, arith, length-append, length-drop}
use Rattle.std.specs.List.{AllByRecursion, remove}
use Rattle.std.proofs.lemmas.List.{append-nil, drop-drop, take_at, take-take, length-take-le, drop_all}
use Rattle.ff_rec.specs.Lines.{IsPlain, cut, behind}
use Rattle.ff_rec.specs.Pieces.{Lacks}
use Rattle.ff_rec.specs.Block.{IsBlock, IsPlace, before}
use Rattle.ff_rec.proofs.Cuts.{cut-split}
use Rattle.ff_rec.proofs.Joins.{cut-joined, cut-before, Lacks-cut, Lacks-IsPlain}
use Rattle.ff_rec.proofs.Places.{AllByRecursion-take, AllByRecursion-drop}

-- a plain field before a tab is a first piece
pub cut-pushed_front : (f b : List ℕ) → IsPlain f → cut 9 (f ++ 9 ∷ b) ≡ f ∷ cut 9 b
cut-pushed_front f b plain = cut-split 9 f b (Lacks-IsPlain f plain)

-- and where there is room for one more field, the block stays one
pub IsBlock-push_front : (f b : List ℕ) (n : ℕ) → IsBlock b n → n < 64 → IsPlain f → IsBlock (f ++ 9 ∷ b) (n + 1)
IsBlock-push_front f b n h room plain =
    let e = cut-pushed_front f b plain in
    record {
      counted = omega (arith, ap length e, h.counted);
      few = omega (arith, ap length e, h.counted);
      plain = subst (AllByRecursion IsPlain) (sym e) (plain, h.plain);
    }

-- what stands behind the tab of fields that each stand behind one
cut-rest : (fs : List (List ℕ)) (bs : List ℕ) → bs ≡ behind fs → 0 < length bs → AllByRecursion (Lacks 9) fs → cut 9 (drop 1 bs) ≡ fs
cut-rest [] bs e some clean = absurd (omega (arith, ap length e))
cut-rest (f ∷ fs) bs e some clean = ap (λ (q : List ℕ). cut 9 (drop 1 q)) e ∙ cut-joined f fs clean.0 clean.1

-- a piece that isn't the last, taken out with the tab behind it
pub cut-removed : (b : List ℕ) (k start end : ℕ) → IsPlace b k start end → end < length b → cut 9 (take start b ++ drop (end + 1) b) ≡ remove (cut 9 b) k
cut-removed b k start end p more =
    let ps = cut 9 b in
    let clean = Lacks-cut 9 b in
    ap (λ (q : List ℕ). cut 9 (q ++ drop (end + 1) b)) p.front
    ∙ cut-before (take k ps) (drop (end + 1) b) (AllByRecursion-take (Lacks 9) k ps clean)
    ∙ ap (λ (q : List (List ℕ)). take k ps ++ q) (ap (cut 9) (sym (drop-drop 1 end b))
    ∙ cut-rest (drop (suc k) ps) (drop end b) p.back (omega (arith, length-drop end b)) (AllByRecursion-drop (Lacks 9) (suc k) ps clean))

-- fields that each stand before a tab are joined, but for the last tab
before-joined : (f : List ℕ) (fs : List (List ℕ)) → before (f ∷ fs) ≡ (f ++ behind fs) ++ 9 ∷ []
before-joined f [] = ap (λ (q : List ℕ). q ++ 9 ∷ []) (sym (append-nil f))
before-joined f (g ∷ gs) = ap (λ (q : List ℕ). f ++ 9 ∷ q) (before-joined g gs) ∙ sym (append_assoc f (9 ∷ (g ++ behind gs)) (9 ∷ []))

cut-before_last : (fs : List (List ℕ)) (bs : List ℕ) (n : ℕ) → 0 < length fs → bs ≡ before fs → n + 1 ≡ length bs → AllByRecursion (Lacks 9) fs → cut 9 (take n bs) ≡ fs
cut-before_last [] bs n some e long clean = absurd (omega arith)
cut-before_last (f ∷ fs) bs n some e long clean =
    let shape : bs ≡ (f ++ behind fs) ++ 9 ∷ [] = e ∙ before-joined f fs in
    ap (λ (q : List ℕ). cut 9 (take n q)) shape
    ∙ ap (cut 9) (take_at (f ++ behind fs) (9 ∷ []) n (omega (arith, ap length shape, length-append (f ++ behind fs) (9 ∷ []))))
    ∙ cut-joined f fs clean.0 clean.1

behind-nil : (fs : List (List ℕ)) → behind fs ≡ [] → fs ≡ []
behind-nil [] e = refl
behind-nil (f ∷ fs) e = absurd (omega (arith, ap length e))

-- the last piece of several, taken out with the tab before it
pub cut-removed_last : (b : List ℕ) (k start end : ℕ) → IsPlace b k start end → length b ≤ end → k < length (cut 9 b) → 2 ≤ length (cut 9 b)
    → (1 ≤ start) × (cut 9 (take (start - 1) b ++ drop end b) ≡ remove (cut 9 b) k)
cut-removed_last b k start end p over below others =
    let ps = cut 9 b in
    let clean = Lacks-cut 9 b in
    let none : drop end b ≡ [] = drop_all end b over in
    let last : drop (suc k) ps ≡ [] = behind-nil (drop (suc k) ps) (sym p.back ∙ none) in
    let many : 0 < length (take k ps) = omega (arith, length-take-le k ps (omega arith), length-drop (suc k) ps, ap length last) in
    let low : start ≤ length b = omega (arith, p.order, p.within) in
    let long : length (take start b) ≡ start = length-take-le start b low in
    let some : 1 ≤ start = before-some (take k ps) (take start b) start many p.front long in (
      some,
      ap (cut 9) (ap (λ (q : List ℕ). take (start - 1) b ++ q) none ∙ append-nil (take (start - 1) b) ∙ sym (take-take (start - 1) start b (omega arith)))
          ∙ cut-before_last (take k ps) (take start b) (start - 1) many p.front (omega arith) (AllByRecursion-take (Lacks 9) k ps clean)
          ∙ sym (append-nil (take k ps)) ∙ ap (λ (q : List (List ℕ)). take k ps ++ q) (sym last),
    )
  where
    before-some : (fs : List (List ℕ)) (bs : List ℕ) (n : ℕ) → 0 < length fs → bs ≡ before fs → length bs ≡ n → 1 ≤ n
    before-some [] bs n some e long = absurd (omega arith)
    before-some (f ∷ fs) bs n some e long = omega (arith, ap length e, length-append f (9 ∷ before fs))

-- each element has what all have
pub AllByRecursion-get_or : {X : Type 0} (P : X → Type 0) (xs : List X) (k : ℕ) (d : X) → k < length xs → AllByRecursion P xs → P (get_or xs k d)
AllByRecursion-get_or P [] k d below h = absurd (omega arith)
AllByRecursion-get_or P (x ∷ xs) zero d below h = h.0
AllByRecursion-get_or P (x ∷ xs) (suc k) d below h = AllByRecursion-get_or P xs k d (omega arith) h.1
