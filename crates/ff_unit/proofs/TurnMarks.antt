-- Turns round and round, and Marks.
use Rattle.std.proofs.Common.{◌≡◌, ◌≢◌, ℕ, zero, suc, ◌+◌, ◌<◌, ◌≤◌, ◌==◌, if◌then◌else◌, List, [], ◌∷◌, ◌++◌, refl, inl, inr, arith}
use Rattle.std.proofs.lemmas.Bool.Decides.{eqb_tells}
use Rattle.ff_rec.specs.declared.msg.Msg.TheVariants.{Item, Mark, Pick, Eos, Abort}
use Rattle.ff_node.specs.Fits.{marks}
use Rattle.ff_node.specs.Runs.{Message}
use Rattle.ff_unit.proofs.Rests.{next_place, turn, turns_of, MarkLast}

pub next_place-below : (n w : ℕ) → w < n → next_place n w < n
next_place-below n w below = elim (eqb_tells (suc w) n) [
  | inl h ↦ rw h.0 (omega arith)
  | inr h ↦ let other : suc w ≢ n = h.1 in rw h.0 (omega arith)
]

pub turn-below : (n k : ℕ) → 1 ≤ n → turn n k < n
turn-below n zero some = omega (arith, some)
turn-below n (suc k) some = next_place-below n (turn n k) (turn-below n k some)

same_place : (k : ℕ) → ◌≡◌ {A = ℕ} (if k == k then 1 else 0) 1
same_place k = elim (eqb_tells k k) [
  | inl h ↦ rw h.0 refl
  | inr h ↦ absurd (h.1 refl)
]

pub turns_of-next : (n k : ℕ) → turns_of n (suc k) (turn n k) ≡ suc (turns_of n k (turn n k))
turns_of-next n k = omega (arith, same_place (turn n k))

pub turns_of-grows : (n j k m : ℕ) → k ≤ m → turns_of n k j ≤ turns_of n m j
turns_of-grows n j k zero less =
    let none : k ≡ 0 = omega arith in
    rw none (omega arith)
turns_of-grows n j k (suc m) less = elim (eqb_tells k (suc m)) [
  | inl h ↦ rw h.1 (omega arith)
  | inr h ↦
      let other : k ≢ suc m = h.1 in
      let before : k ≤ m = omega arith in
      omega (arith, turns_of-grows n j k m before)
]

-- not more turns of each place are no more turns
pub fewer_turns : (n k m : ℕ) → 1 ≤ n → ((j : ℕ) → j < n → turns_of n k j ≤ turns_of n m j) → k ≤ m
fewer_turns n k m some each =
    let w = turn n m in
    let here = each w (turn-below n m some) in
    by here (λ more. turns_of-grows n w (suc m) k more) (turns_of-next n m)
  where
    by : turns_of n k (turn n m) ≤ turns_of n m (turn n m) → (suc m ≤ k → turns_of n (suc m) (turn n m) ≤ turns_of n k (turn n m))
        → turns_of n (suc m) (turn n m) ≡ suc (turns_of n m (turn n m)) → k ≤ m
    by here grows next = not_more k m (λ more. let there = grows more in omega (arith, here, there, next))
      where
        not_more : (k m : ℕ) → (suc m ≤ k → ⊥) → k ≤ m
        not_more zero m never = omega arith
        not_more (suc k) zero never = absurd (never (omega arith))
        not_more (suc k) (suc m) never =
            let less : k ≤ m = not_more k m (λ h. never (omega (arith, h))) in
            omega (arith, less)

-- Marks of lists behind one another
pub marks-append : (xs ys : List Message) → marks (xs ++ ys) ≡ marks xs + marks ys
marks-append [] ys = omega arith
marks-append (Item x ∷ xs) ys = marks-append xs ys
marks-append (Mark ∷ xs) ys = omega (arith, marks-append xs ys)
marks-append (Pick w ∷ xs) ys = marks-append xs ys
marks-append (Eos ∷ xs) ys = marks-append xs ys
marks-append (Abort ∷ xs) ys = marks-append xs ys

-- where a Mark is last, one is in each end of the list
pub mark_in_end : (xs ys : List Message) → MarkLast (xs ++ ys) → (ys ≡ [] → ⊥) → 1 ≤ marks ys
mark_in_end xs [] last some = absurd (some refl)
mark_in_end [] (Mark ∷ ys) last some = omega arith
mark_in_end [] (Item x ∷ []) last some = absurd (cc last)
mark_in_end [] (Item x ∷ y ∷ ys) last some = mark_in_end [] (y ∷ ys) last (λ is. absurd (cc is))
mark_in_end [] (Pick w ∷ []) last some = absurd (cc last)
mark_in_end [] (Pick w ∷ y ∷ ys) last some = mark_in_end [] (y ∷ ys) last (λ is. absurd (cc is))
mark_in_end [] (Eos ∷ []) last some = absurd (cc last)
mark_in_end [] (Eos ∷ y ∷ ys) last some = mark_in_end [] (y ∷ ys) last (λ is. absurd (cc is))
mark_in_end [] (Abort ∷ []) last some = absurd (cc last)
mark_in_end [] (Abort ∷ y ∷ ys) last some = mark_in_end [] (y ∷ ys) last (λ is. absurd (cc is))
mark_in_end (x ∷ []) (y ∷ ys) last some = mark_in_end [] (y ∷ ys) last some
mark_in_end (x ∷ z ∷ xs) (y ∷ ys) last some = mark_in_end (z ∷ xs) (y ∷ ys) last some
