-- The readers of statements, one operand more; and what reads from a statement.
use Rattle.std.proofs.Common.{◌≡◌, ℕ, zero, suc, ◌+◌, ◌*◌, ◌/◌, ◌%◌, ◌<◌, true, false, List, [], ◌∷◌, ◌++◌, Option, None, Some, length, get_or, set, refl, sym, ap, ◌∙◌, subst, arith, inl, inr, length-set, length-append, get_or-set_same, get_or-set_other, eq-eqb, eqb-true}
use Rattle.std.specs.Prelude.{◌==◌, if◌then◌else◌}
use Rattle.std.proofs.lemmas.Bool.{cases_Bool, cases_eq, cond-false, cond-true, ne_eqb}
use Rattle.std.proofs.lemmas.List.{get_or_append_left, get_or_at}
use Rattle.ff_prog.specs.Links.{links_at}
use Rattle.ff_prog.specs.declared.statement.Statement.{Statement}
use Rattle.ff_mdf_tasks.specs.Sources.{link_in, target, source, is_source, last_reader, ReadersUntil, reader_of, with_reader}

-- the last reader of each statement, with one operand more
last-next : (latest : List (Option ℕ)) (o : Option ℕ) (t j : ℕ) (r : Option ℕ) → j < length latest → get_or latest j None ≡ r
    → get_or (with_reader latest o t) j None ≡ (if is_source o j then Some t else r)
last-next latest None t j r below at = at
last-next latest (Some i) t j r below at = elim (cases_eq i j) [
  | inl e ↦ subst (λ k. get_or (set latest k (Some t)) j None ≡ Some t) (sym e) (get_or-set_same latest j (Some t) None below)
      ∙ sym (cond-true (i == j) (Some t) r (eq-eqb i j e))
  | inr other ↦ get_or-set_other latest i j (Some t) None (λ e. other (sym e)) ∙ at ∙ sym (cond-false (i == j) (Some t) r (ne_eqb i j other))
]

length-with_reader : (latest : List (Option ℕ)) (o : Option ℕ) (t : ℕ) → length (with_reader latest o t) ≡ length latest
length-with_reader latest None t = refl
length-with_reader latest (Some i) t = length-set latest i (Some t)

pub ReadersUntil-next : (ss : List Statement) (m : ℕ) (latest earlier now more : List (Option ℕ)) (before : Option ℕ) → ReadersUntil ss m latest earlier
    → now ≡ with_reader latest (source ss m) m → before ≡ reader_of latest (source ss m) → more ≡ earlier ++ before ∷ [] → ReadersUntil ss (m + 1) now more
ReadersUntil-next ss m latest earlier now more before r now_is before_is more_is =
    let latest_more = with_reader latest (source ss m) m in
    record {
      statements = ap (λ xs. length xs) now_is ∙ length-with_reader latest (source ss m) m ∙ r.statements;
      operands = ap (λ xs. length xs) more_is ∙ length-append earlier (before ∷ []) ∙ ap (λ n. n + 1) r.operands;
      last = λ j below.
          ap (λ xs. get_or xs j None) now_is
          ∙ last-next latest (source ss m) m j (last_reader ss j m) (omega (arith, r.statements)) (r.last j below)
          ∙ (let same : suc m ≡ m + 1 = omega arith in ap (last_reader ss j) same);
      before = λ t j less below at. ap (λ xs. get_or xs t None) more_is ∙ (elim (cases_eq t m) [
        | inl e ↦
            get_or_at earlier before [] None t (r.operands ∙ sym e)
            ∙ before_is
            ∙ ap (reader_of latest) (subst (λ k. source ss k ≡ Some j) e at)
            ∙ r.last j below
            ∙ ap (last_reader ss j) (sym e)
        | inr other ↦
            let less_still : t < m = omega (arith, other) in
            get_or_append_left earlier (before ∷ []) None t (omega (arith, r.operands)) ∙ r.before t j less_still below at
      ]);
    }

-- no operand yet
pub ReadersUntil-none : (ss : List Statement) (latest earlier : List (Option ℕ)) → length latest ≡ length ss → ((j : ℕ) → j < length ss → get_or latest j None ≡ None)
    → earlier ≡ [] → ReadersUntil ss 0 latest earlier
ReadersUntil-none ss latest earlier statements none empty = record {
  statements = statements;
  operands = ap (λ xs. length xs) empty;
  last = none;
  before = λ t j less. absurd (omega arith);
}

-- the last reader is one, and none stands behind it
pub record IsLastReader (ss : List Statement) (id m t : ℕ) : Type 0 where
  pub below : t < m
  pub reads : source ss t ≡ Some id
  pub behind : (u : ℕ) → t < u → u < m → source ss u ≡ Some id → ⊥

source-is : (o : Option ℕ) (j : ℕ) → is_source o j ≡ true → o ≡ Some j
source-is None j e = cc
source-is (Some i) j e = ap (λ k. Some k) (eqb-true i j e)

source-is_not : (o : Option ℕ) (j : ℕ) → is_source o j ≡ false → o ≡ Some j → ⊥
source-is_not o j e same = let one : is_source o j ≡ true = subst (λ p. is_source p j ≡ true) (sym same) (eq-eqb j j refl) in cc

pub last_reader-some : (ss : List Statement) (id m t : ℕ) → last_reader ss id m ≡ Some t → IsLastReader ss id m t
last_reader-some ss id zero t e = cc
last_reader-some ss id (suc m) t e = elim (cases_Bool (is_source (source ss m) id)) [
  | inl found ↦
      let same : m ≡ t = let at : Some m ≡ Some t = sym (cond-true (is_source (source ss m) id) (Some m) (last_reader ss id m) found) ∙ e in cc in
      record {
        below = omega arith;
        reads = subst (λ u. source ss u ≡ Some id) same (source-is (source ss m) id found);
        behind = λ u after less _. omega (arith, same, after, less);
      }
  | inr not_it ↦
      let l = last_reader-some ss id m t (sym (cond-false (is_source (source ss m) id) (Some m) (last_reader ss id m) not_it) ∙ e) in
      record {
        below = omega (arith, l.below);
        reads = l.reads;
        behind = λ u after less at. elim (cases_eq u m) [
          | inl same ↦ source-is_not (source ss m) id not_it (subst (λ v. source ss v ≡ Some id) same at)
          | inr other ↦ l.behind u after (omega (arith, other, less)) at
        ];
      }
]

pub last_reader-none : (ss : List Statement) (id m : ℕ) → last_reader ss id m ≡ None → (u : ℕ) → u < m → source ss u ≡ Some id → ⊥
last_reader-none ss id zero e u less at = omega (arith, less)
last_reader-none ss id (suc m) e u less at = elim (cases_Bool (is_source (source ss m) id)) [
  | inl found ↦ let never : Some m ≡ None = sym (cond-true (is_source (source ss m) id) (Some m) (last_reader ss id m) found) ∙ e in cc
  | inr not_it ↦ elim (cases_eq u m) [
    | inl same ↦ source-is_not (source ss m) id not_it (subst (λ v. source ss v ≡ Some id) same at)
    | inr other ↦ last_reader-none ss id m (sym (cond-false (is_source (source ss m) id) (Some m) (last_reader ss id m) not_it) ∙ e) u (omega (arith, other, less)) at
  ]
]

-- the operands of a statement
place_div : (k p : ℕ) → p < 3 → (3 * k + p) / 3 ≡ k
place_div k p below = omega arith

place_mod : (k p : ℕ) → p < 3 → (3 * k + p) % 3 ≡ p
place_mod k p below = omega arith

-- an operand of a statement that leads to another
pub record IsReader (ss : List Statement) (id k : ℕ) : Type 0 where
  pub operand : ℕ
  pub within : operand < 3 * length ss
  pub reads : source ss operand ≡ Some id
  pub statement : operand / 3 ≡ k

pub IsReader-place : (ss : List Statement) (id k p : ℕ) → k < length ss → p < 3 → target (link_in (links_at ss k) p) ≡ Some id → IsReader ss id k
IsReader-place ss id k p below place at = record {
  operand = 3 * k + p;
  within = omega arith;
  reads = ap (λ i. target (link_in (links_at ss i) ((3 * k + p) % 3))) (place_div k p place) ∙ ap (λ i. target (link_in (links_at ss k) i)) (place_mod k p place) ∙ at;
  statement = place_div k p place;
}
