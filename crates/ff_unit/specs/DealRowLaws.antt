-- What was put on each out, by the messages in the order in which they were put.
use Rattle.std.specs.Prelude.{◌≡◌, ◌+◌, ◌<◌, ℕ, zero, suc, List, [], ◌∷◌, ◌++◌, length, map, replicate}
use Rattle.std.proofs.Common.{refl, sym, ap, ◌∙◌, subst, ⊎_elim, arith, append-nil}
use Rattle.std.proofs.lemmas.Bool.{cases_eq}
use Rattle.ff_rec.specs.Streams.{IsOpen, at, added, unaborted, closed, GoesOn}
use Rattle.ff_node.specs.Runs.{Message, AllGoOn, AreOpen}
use Rattle.std.proofs.lemmas.List.{length-replicate}
use Rattle.ff_unit.specs.TakenLaws.{at-added, at-added_other, at-none, length-added}
use Rattle.ff_unit.specs.DealPairLaws.{Pair, on, on-append, on-own, on-other}

-- what was put is these messages, each on its out
pub record ArePut (n : ℕ) (puts : List (List Message)) (pairs : List Pair) : Type 0 where
  pub outs : length puts ≡ n
  pub each : (j : ℕ) → j < n → at puts j ≡ on j pairs

pub ArePut-none : (n : ℕ) → ArePut n (replicate n []) []
ArePut-none n = record { outs = length-replicate {A = List Message} n []; each = λ j below. at-none n j }

-- one message more is put
pub ArePut-added : (n : ℕ) (puts : List (List Message)) (pairs : List Pair) (k : ℕ) (m : Message) → k < n → ArePut n puts pairs → ArePut n (added puts k m) (pairs ++ (k, m) ∷ [])
ArePut-added n puts pairs k m within are = record {
  outs = length-added puts k m ∙ are.outs;
  each = λ j below. ⊎_elim (own j below) (other j below) (cases_eq j k);
}
  where
    own : (j : ℕ) → j < n → j ≡ k → at (added puts k m) j ≡ on j (pairs ++ (k, m) ∷ [])
    own j below e =
        ap (at (added puts k m)) e
        ∙ at-added puts k m (omega (arith, within, are.outs))
        ∙ ap (λ l. l ++ m ∷ []) (ap (at puts) (sym e) ∙ are.each j below)
        ∙ ap (λ l. on j pairs ++ l) (sym (on-own k j m [] (sym e)))
        ∙ sym (on-append j pairs ((k, m) ∷ []))

    other : (j : ℕ) → j < n → (j ≡ k → ⊥) → at (added puts k m) j ≡ on j (pairs ++ (k, m) ∷ [])
    other j below e =
        at-added_other puts k j m e
        ∙ are.each j below
        ∙ sym (append-nil (on j pairs))
        ∙ ap (λ l. on j pairs ++ l) (sym (on-other k j m [] (λ back. e (sym back))))
        ∙ sym (on-append j pairs ((k, m) ∷ []))

-- the lists of `n` outs from out `k` on
abbrev pub rows : (ℕ → List Message) → ℕ → ℕ → List (List Message)
rows f k zero = []
rows f k (suc n) = f k ∷ rows f (suc k) n

pub length-rows : (f : ℕ → List Message) (k n : ℕ) → length (rows f k n) ≡ n
length-rows f k zero = refl
length-rows f k (suc n) = ap (λ l. suc l) (length-rows f (suc k) n)

pub at-rows : (f : ℕ → List Message) (k n j : ℕ) → j < n → at (rows f k n) j ≡ f (k + j)
at-rows f k zero j below = absurd (omega arith)
at-rows f k (suc n) zero below = let same : k ≡ k + 0 = omega arith in ap f same
at-rows f k (suc n) (suc j) below = let same : suc k + j ≡ k + suc j = omega arith in at-rows f (suc k) n j (omega arith) ∙ ap f same

pub at-rows_all : (f : ℕ → List Message) (n j : ℕ) → j < n → at (rows f 0 n) j ≡ f j
at-rows_all f n j below = let same : 0 + j ≡ j = omega arith in at-rows f 0 n j below ∙ ap f same

-- the whole lists of all outs
pub rows-closed : (f : ℕ → List Message) (k n : ℕ) (lists : List (List Message)) → length lists ≡ n
    → ((j : ℕ) → j < n → at lists j ≡ closed (f (k + j))) → lists ≡ map closed (rows f k n)
rows-closed f k zero [] number each = refl
rows-closed f k zero (l ∷ lists) number each = absurd (omega (arith, number))
rows-closed f k (suc n) [] number each = absurd (omega (arith, number))
rows-closed f k (suc n) (l ∷ lists) number each =
    let same : k + 0 ≡ k = omega arith in
    let here : l ≡ closed (f k) = each 0 (omega arith) ∙ ap (λ i. closed (f i)) same in
    let rest : lists ≡ map closed (rows f (suc k) n) =
    rows-closed f (suc k) n lists (omega (arith, number)) (λ j below.
    let next : k + suc j ≡ suc k + j = omega arith in each (suc j) (omega arith) ∙ ap (λ i. closed (f i)) next) in
    ap (λ a. a ∷ lists) here ∙ ap (λ ls. closed (f k) ∷ ls) rest

-- no end stands in any row
pub AreOpen-rows : (f : ℕ → List Message) (k n : ℕ) → ((j : ℕ) → IsOpen (f j)) → AreOpen (rows f k n)
AreOpen-rows f k zero each = tt
AreOpen-rows f k (suc n) each = (each k, AreOpen-rows f (suc k) n each)

-- every out goes on
pub AllGoOn-rows : (f : ℕ → List Message) (k n : ℕ) (lists : List (List Message)) → length lists ≡ n
    → ((j : ℕ) → j < n → GoesOn (unaborted (at lists j)) (f (k + j))) → AllGoOn lists (rows f k n)
AllGoOn-rows f k zero [] number each = tt
AllGoOn-rows f k zero (l ∷ lists) number each = absurd (omega (arith, number))
AllGoOn-rows f k (suc n) [] number each = absurd (omega (arith, number))
AllGoOn-rows f k (suc n) (l ∷ lists) number each =
    let same : k + 0 ≡ k = omega arith in (
      subst (λ i. GoesOn (unaborted l) (f i)) same (each 0 (omega arith)),
      AllGoOn-rows f (suc k) n lists (omega (arith, number)) (λ j below.
          let next : k + suc j ≡ suc k + j = omega arith in subst (λ i. GoesOn (unaborted (at lists j)) (f i)) next (each (suc j) (omega arith))),
    )
