-- What an ordered deal put, round and round: some whole groups, and a record without its Mark perhaps.
use Rattle.std.proofs.Common.{◌≡◌, ◌≢◌, ◌⊎◌, ℕ, zero, suc, ◌+◌, ◌%◌, ◌<◌, ◌≤◌, ◌==◌, Bool, true, false, cond, if◌then◌else◌, List, [], ◌∷◌, ◌++◌, length, get_or, refl, sym, ap, ◌∙◌, subst, inl, inr, arith, append-nil}
use Rattle.std.proofs.Math.Nat.{zero-mod}
use Rattle.std.proofs.lemmas.Bool.Decides.{eqb_tells}
use Rattle.ff_rec.specs.Lines.{Rec}
use Rattle.ff_rec.specs.declared.msg.Msg.TheVariants.{Item, Mark, Pick, Eos, Abort}
use Rattle.ff_node.specs.Fits.{marks}
use Rattle.ff_node.specs.Picks.{turns_from}
use Rattle.ff_node.specs.Runs.{Message}
use Rattle.ff_unit.specs.DealPairLaws.{Pair, on, on-append}
use Rattle.ff_unit.specs.DealSentLaws.{sent}
use Rattle.ff_unit.specs.DealTurnLaws.{next_place-mod}
use Rattle.ff_unit.specs.Deals.{on_outs}
use Rattle.ff_unit.specs.declared.dealing.Dealing.TheVariants.{GroupsInTurn}
use Rattle.ff_unit.proofs.Rests.{turn, turns_of, MarkLast}
use Rattle.ff_unit.proofs.TurnMarks.{marks-append}

-- how many of the first `k` picks are place `j`
abbrev pub picked_first : ℕ → List ℕ → ℕ → ℕ
picked_first zero p j = 0
picked_first (suc k) [] j = 0
picked_first (suc k) (w ∷ p) j = (if w == j then 1 else 0) + picked_first k p j

-- a front of what is sent for records that are dealt by picks, in groups
pub record FrontOf (p : List ℕ) (ps rest : List Pair) : Type 0 where
  pub number : ℕ
  pub few : number ≤ length p
  pub marked : (j : ℕ) → marks (on j ps) ≡ picked_first number p j
  pub last : (j : ℕ) → MarkLast (on j ps) ⊎ ((number < length p) × (j ≡ get_or p number 0))
  pub next : (pair : Pair) (more : List Pair) → rest ≡ pair ∷ more → (number < length p) × (pair.0 ≡ get_or p number 0)

-- one record alone, and a whole group
marks-item : (w j : ℕ) (x : Rec) → marks (on j ((w, Item x) ∷ [])) ≡ 0
marks-item w j x = by (w == j)
  where
    by : (e : Bool) → marks (cond e (Item x ∷ []) []) ≡ 0
    by true = refl
    by false = refl

last-item : (w j : ℕ) (x : Rec) → MarkLast (on j ((w, Item x) ∷ [])) ⊎ (j ≡ w)
last-item w j x = elim (eqb_tells w j) [
  | inl h ↦ inr (sym h.1)
  | inr h ↦ inl (rw h.0 tt)
]

marks-group : (w j : ℕ) (x : Rec) (ps : List Pair) → marks (on j ((w, Item x) ∷ (w, Mark) ∷ ps)) ≡ (if w == j then 1 else 0) + marks (on j ps)
marks-group w j x ps = by (w == j)
  where
    by : (e : Bool) → marks (cond e (Item x ∷ cond e (Mark ∷ on j ps) (on j ps)) (cond e (Mark ∷ on j ps) (on j ps))) ≡ cond e 1 0 + marks (on j ps)
    by true = omega arith
    by false = omega arith

last-behind : (ms : List Message) (x : Rec) → MarkLast ms → MarkLast (Item x ∷ Mark ∷ ms)
last-behind [] x last = refl
last-behind (m ∷ ms) x last = last

last-group : (w j : ℕ) (x : Rec) (ps : List Pair) → MarkLast (on j ps) → MarkLast (on j ((w, Item x) ∷ (w, Mark) ∷ ps))
last-group w j x ps last = by (w == j)
  where
    by : (e : Bool) → MarkLast (cond e (Item x ∷ cond e (Mark ∷ on j ps) (on j ps)) (cond e (Mark ∷ on j ps) (on j ps)))
    by true = last-behind (on j ps) x last
    by false = last

front_of : (n : ℕ) (p : List ℕ) (xs : List Rec) (ps rest : List Pair) → length p ≡ length xs → ps ++ rest ≡ sent GroupsInTurn n p xs → FrontOf p ps rest
front_of n [] xs (q ∷ ps) rest each is = absurd (let h : q ∷ (ps ++ rest) ≡ [] = is in cc)
front_of n [] xs [] rest each is = record {
  number = 0;
  few = omega arith;
  marked = λ j. refl;
  last = λ j. inl tt;
  next = λ pair more first. absurd (let h : pair ∷ more ≡ [] = sym first ∙ is in cc);
}
front_of n (w ∷ p) [] ps rest each is = absurd (omega (arith, each))
front_of n (w ∷ p) (x ∷ xs) [] rest each is = record {
  number = 0;
  few = omega arith;
  marked = λ j. refl;
  last = λ j. inl tt;
  next = λ pair more first.
      let h : pair ∷ more ≡ (w, Item x) ∷ (w, Mark) ∷ sent GroupsInTurn n p xs = sym first ∙ is in
      let same : ◌≡◌ {A = Pair} pair (w, Item x) = cc in
      (omega arith, ap (λ (q : Pair). q.0) same);
}
front_of n (w ∷ p) (x ∷ xs) (q ∷ []) rest each is =
    let h : q ∷ rest ≡ (w, Item x) ∷ (w, Mark) ∷ sent GroupsInTurn n p xs = is in
    let one : ◌≡◌ {A = Pair} q (w, Item x) = cc in
    let behind : rest ≡ (w, Mark) ∷ sent GroupsInTurn n p xs = cc in
    record {
      number = 0;
      few = omega arith;
      marked = λ j. subst (λ (r : Pair). marks (on j (r ∷ [])) ≡ 0) (sym one) (marks-item w j x);
      last = λ j. subst (λ (r : Pair). MarkLast (on j (r ∷ [])) ⊎ ((0 < suc (length p)) × (j ≡ w))) (sym one)
          (elim (last-item w j x) [ inl last ↦ inl last | inr here ↦ inr (omega arith, here) ]);
      next = λ pair more first.
          let g : pair ∷ more ≡ (w, Mark) ∷ sent GroupsInTurn n p xs = sym first ∙ behind in
          let same : ◌≡◌ {A = Pair} pair (w, Mark) = cc in
          (omega arith, ap (λ (r : Pair). r.0) same);
    }
front_of n (w ∷ p) (x ∷ xs) (q ∷ r ∷ ps) rest each is =
    let h : q ∷ r ∷ (ps ++ rest) ≡ (w, Item x) ∷ (w, Mark) ∷ sent GroupsInTurn n p xs = is in
    let one : ◌≡◌ {A = Pair} q (w, Item x) = cc in
    let two : ◌≡◌ {A = Pair} r (w, Mark) = cc in
    let behind : ps ++ rest ≡ sent GroupsInTurn n p xs = cc in
    let f = front_of n p xs ps rest (omega (arith, each)) behind in
    subst (λ (a : Pair). FrontOf (w ∷ p) (a ∷ r ∷ ps) rest) (sym one)
    (subst (λ (a : Pair). FrontOf (w ∷ p) ((w, Item x) ∷ a ∷ ps) rest) (sym two) (record {
      number = suc f.number;
      few = omega (arith, f.few);
      marked = λ j. marks-group w j x ps ∙ ap (λ k. (if w == j then 1 else 0) + k) (f.marked j);
      last = λ j. elim (f.last j) [ inl last ↦ inl (last-group w j x ps last) | inr here ↦ inr (omega (arith, here.0), here.1) ];
      next = λ pair more first. let g = f.next pair more first in (omega (arith, g.0), g.1);
    }))

-- picks in turn
turn-mod : (n k : ℕ) → 1 ≤ n → turn n k ≡ k % n
turn-mod n zero some = sym (zero-mod n)
turn-mod n (suc k) some = next_place-mod n k (turn n k) some (turn-mod n k some)

get-turns : (n from m k : ℕ) → k < m → get_or (turns_from n from m) k 0 ≡ (from + k) % n
get-turns n from zero k below = absurd (omega (arith, below))
get-turns n from (suc m) zero below = let same : from ≡ from + 0 = omega arith in ap (λ i. i % n) same
get-turns n from (suc m) (suc k) below = let same : suc from + k ≡ from + suc k = omega arith in get-turns n (suc from) m k (omega (arith, below)) ∙ ap (λ i. i % n) same

picked-turns : (n from m k j : ℕ) → 1 ≤ n → k ≤ m → picked_first k (turns_from n from m) j + turns_of n from j ≡ turns_of n (from + k) j
picked-turns n from m zero j some few = let same : from ≡ from + 0 = omega arith in omega (arith, ap (λ i. turns_of n i j) same)
picked-turns n from zero (suc k) j some few = absurd (omega (arith, few))
picked-turns n from (suc m) (suc k) j some few =
    let next : suc from + k ≡ from + suc k = omega arith in
    let rest = picked-turns n (suc from) m k j some (omega (arith, few)) in
    let here : ◌≡◌ {A = ℕ} (if turn n from == j then 1 else 0) (if (from % n) == j then 1 else 0) = ap (λ i. if i == j then 1 else 0) (turn-mod n from some) in
    omega (arith, rest, here, ap (λ i. turns_of n i j) next)

-- the same in turns
pub record FrontInTurn (n : ℕ) (ps rest : List Pair) : Type 0 where
  pub number : ℕ
  pub marked : (j : ℕ) → marks (on j ps) ≡ turns_of n number j
  pub last : (j : ℕ) → (j ≡ turn n number) ⊎ MarkLast (on j ps)
  pub next : (pair : Pair) (more : List Pair) → rest ≡ pair ∷ more → pair.0 ≡ turn n number

pub front_in_turn : (n : ℕ) (p : List ℕ) (xs : List Rec) (ps rest : List Pair) → 1 ≤ n → length p ≡ length xs → p ≡ turns_from n 0 (length xs) → ps ++ rest ≡ sent GroupsInTurn n p xs
    → FrontInTurn n ps rest
front_in_turn n p xs ps rest some each turned is =
    let f = front_of n p xs ps rest each is in
    let m = length xs in
    let place : f.number < length p → get_or p f.number 0 ≡ turn n f.number =
    λ below.
    let same : 0 + f.number ≡ f.number = omega arith in
    ap (λ l. get_or l f.number 0) turned ∙ get-turns n 0 m f.number (omega (arith, below, each)) ∙ ap (λ i. i % n) same ∙ sym (turn-mod n f.number some) in
    record {
      number = f.number;
      marked = λ j.
          let same : 0 + f.number ≡ f.number = omega arith in
          let few : f.number ≤ m = omega (arith, f.few, each) in
          let all = picked-turns n 0 m f.number j some few in
          omega (arith, f.marked j, ap (λ l. picked_first f.number l j) turned, all, ap (λ i. turns_of n i j) same);
      last = λ j. elim (f.last j) [ inl last ↦ inr last | inr here ↦ inl (here.1 ∙ place here.0) ];
      next = λ pair more first. let g = f.next pair more first in g.1 ∙ place g.0;
    }

-- no Mark is told at the end
pub marks-on_outs : (j i n : ℕ) (m : Message) → marks (m ∷ []) ≡ 0 → marks (on j (on_outs i n m)) ≡ 0
marks-on_outs j i zero m none = refl
marks-on_outs j i (suc n) m none = by (i == j) (marks-on_outs j (suc i) n m none)
  where
    by : (e : Bool) → marks (on j (on_outs (suc i) n m)) ≡ 0 → marks (cond e (m ∷ on j (on_outs (suc i) n m)) (on j (on_outs (suc i) n m))) ≡ 0
    by true rest = omega (arith, marks-append (m ∷ []) (on j (on_outs (suc i) n m)), none, rest)
    by false rest = rest
