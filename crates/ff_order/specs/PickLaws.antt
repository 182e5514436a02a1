-- Whose group comes next, of the picks that are left.
use Rattle.std.proofs.Common.{◌≡◌, ◌⊎◌, ℕ, zero, suc, ◌%◌, ◌<◌, ◌≤◌, cond, List, [], ◌∷◌, ◌++◌, map, refl, sym, ap, ◌∙◌, arith, inl, inr, lt-ltb, le-ltb, eq-eqb, ne_eqb, mod-eq_of_lt}
use Rattle.std.proofs.Math.Nat.{suc-mod, mod_self}
use Rattle.std.proofs.lemmas.Bool.{cases_eq}
use Rattle.ff_rec.specs.Streams.{at, added, closed}
use Rattle.ff_rec.specs.declared.msg.Msg.TheVariants.{Pick, Eos as EosMsg}
use Rattle.ff_node.specs.Fits.{picked}
use Rattle.ff_node.specs.Picks.{turns_from}
use Rattle.ff_node.specs.Runs.{Message}
use Rattle.ff_unit.specs.Deals.{next_place}
use Rattle.ff_order.specs.GroupLaws.{picked-here}
use Rattle.ff_order.specs.OMerges.{next_due}
use Rattle.ff_order.specs.OMergeTiedLaws.{PicksLeft}
use Rattle.ff_unit.specs.TakenLaws.{at-added_other}
use Rattle.ff_order.specs.declared.order.Order.{Order}
use Rattle.ff_order.specs.declared.order.Order.TheVariants.{InTurn, ByPick}

-- the place after that of number `g`
pub next_place-mod : (n g : ℕ) → 1 ≤ n → next_place n (g % n) ≡ suc g % n
next_place-mod n g some = by (cases_eq (suc (g % n)) n)
  where
    by : (suc (g % n) ≡ n) ⊎ (suc (g % n) ≡ n → ⊥) → next_place n (g % n) ≡ suc g % n
    by (inl e) = rw (eq-eqb (suc (g % n)) n e) (sym (suc-mod g n ∙ ap (λ k. k % n) e ∙ mod_self n))
    by (inr ne) =
        let low : g % n < n = omega arith in
        rw (ne_eqb (suc (g % n)) n ne) (sym (suc-mod g n ∙ mod-eq_of_lt (omega (arith, ne))))

-- the pick of the group that is due, and those behind it
pub record IsFirstPick (order : Order) (n due : ℕ) (gots ins : List (List Message)) (picks : List ℕ) : Type 0 where
  pub later : List ℕ
  pub are : picks ≡ due ∷ later
  -- the group goes on, or has ended
  pub on : (m : Message) → PicksLeft order n due (added gots due m) ins picks
  pub next : (m : Message) → PicksLeft order n (next_due order n due) (added gots due m) ins later

module _ (n due : ℕ) (gots ins : List (List Message)) (within : due < n) where
  -- other ins than that of the picks tell nothing of them
  told-still : (m : Message) (rest : List ℕ) → at ins n ≡ at gots n ++ map (λ w. Pick w) rest
      → at ins n ≡ at (added gots due m) n ++ map (λ w. Pick w) rest
  told-still m rest told = told ∙ ap (λ l. l ++ map (λ w. Pick w) rest) (sym (at-added_other gots due n m (λ e. absurd (omega arith))))

  pub PicksLeft-first : (order : Order) (some : 1 ≤ n) (picks : List ℕ) → PicksLeft order n due gots ins picks → 1 ≤ picked picks due
      → IsFirstPick order n due gots ins picks
  PicksLeft-first InTurn some picks left one = by left.count refl
    where
      by : (count : ℕ) → left.count ≡ count → IsFirstPick InTurn n due gots ins picks
      by zero e =
          let none : picks ≡ [] = left.are ∙ ap (turns_from n left.from) e in
          absurd (omega (arith, one, ap (λ l. picked l due) none))
      by (suc count) e = record {
        later = turns_from n (suc left.from) count;
        are = left.are ∙ ap (turns_from n left.from) e ∙ ap (λ w. w ∷ turns_from n (suc left.from) count) (sym left.is_due);
        on = λ m. left;
        next = λ m. record { from = suc left.from; count = count; is_due = ap (next_place n) left.is_due ∙ next_place-mod n left.from some; are = refl };
      }
  PicksLeft-first ByPick some picks left one = record {
    later = left.rest;
    are = left.are ∙ ap (λ b. cond b (due ∷ left.rest) left.rest) (lt-ltb due n within);
    on = λ m. record { rest = left.rest; are = left.are; told = told-still m left.rest left.told; within = left.within };
    next = λ m. record {
      rest = left.rest;
      are = ap (λ b. cond b (n ∷ left.rest) left.rest) (sym (le-ltb n n (omega arith)));
      told = told-still m left.rest left.told;
      within = left.within;
    };
  }

  -- where the place that is due is picked no more, nothing is
  pub PicksLeft-none : (order : Order) (picks : List ℕ) → PicksLeft order n due gots ins picks → picked picks due ≡ 0 → picks ≡ []
  PicksLeft-none InTurn picks left none = by left.count refl
    where
      by : (count : ℕ) → left.count ≡ count → picks ≡ []
      by zero e = left.are ∙ ap (turns_from n left.from) e
      by (suc count) e =
          let first : picks ≡ due ∷ turns_from n (suc left.from) count = left.are ∙ ap (turns_from n left.from) e ∙ ap (λ w. w ∷ turns_from n (suc left.from) count) (sym left.is_due) in
          absurd (omega (arith, none, ap (λ l. picked l due) first, picked-here due (turns_from n (suc left.from) count)))
  PicksLeft-none ByPick picks left none =
      let first : picks ≡ due ∷ left.rest = left.are ∙ ap (λ b. cond b (due ∷ left.rest) left.rest) (lt-ltb due n within) in
      absurd (omega (arith, none, ap (λ l. picked l due) first, picked-here due left.rest))

-- what comes next on the in of the picks
pub record IsNextPick (w : ℕ) (rest : List ℕ) : Type 0 where
  pub later : List ℕ
  pub are : rest ≡ w ∷ later

pub picks-pick : (rest : List ℕ) (w : ℕ) (more : List Message) → closed (map (λ w. Pick w) rest) ≡ Pick w ∷ more → IsNextPick w rest
picks-pick [] w more e = absurd (cc)
picks-pick (v ∷ rest) w more e = record { later = rest; are = cc }

pub picks-eos : (rest : List ℕ) (more : List Message) → closed (map (λ w. Pick w) rest) ≡ EosMsg ∷ more → rest ≡ []
picks-eos [] more e = refl
picks-eos (v ∷ rest) more e = absurd (cc)

pub picks-item : (rest : List ℕ) (m : Message) (more : List Message) → (m ≡ EosMsg → ⊥) → ((w : ℕ) → m ≡ Pick w → ⊥)
    → closed (map (λ w. Pick w) rest) ≡ m ∷ more → ⊥
picks-item [] m more eos pick e = eos (cc)
picks-item (v ∷ rest) m more eos pick e = pick v (cc)
