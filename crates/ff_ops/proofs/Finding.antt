-- A search for bytes in others, by recursion on those.
use Rattle.std.proofs.Common.{◌≡◌, ℕ, zero, suc, ◌+◌, ◌≤◌, true, nat_eq, List, [], ◌∷◌, length, take, Option, None, Some, get_or, sym, ap, ◌∙◌, arith, ⊎_elim}
use Rattle.std.proofs.lemmas.Bool.{or_cases, or_left, or_right, false_from_ne_true}
use Rattle.std.proofs.lemmas.List.{get_or-take, ext_get_or, length-take-le}
use Rattle.std.specs.List.{starts_with}
use Rattle.std.specs.Cmp.Lexicographic.{bytes_decides}
use Rattle.std.specs.Prelude.{is_some}
use Rattle.memchr.specs.Find.{OccursAt, FindsNeedle}
use Rattle.ff_ops.specs.FieldOps.{occurs}

take-fits : (xs ys : List ℕ) → ys ≡ take (length ys) xs → length ys ≤ length xs
take-fits xs [] e = omega arith
take-fits [] (y ∷ ys) e = absurd (cc)
take-fits (x ∷ xs) (y ∷ ys) e =
    let tails : ys ≡ take (length ys) xs = cc in
    let below : length ys ≤ length xs = take-fits xs ys tails in omega arith

-- a needle that a text starts with stands at its front
OccursAt-front : (bytes needle : List ℕ) → starts_with nat_eq bytes needle ≡ true → OccursAt bytes needle 0
OccursAt-front bytes needle h =
    let same : needle ≡ take (length needle) bytes = (bytes_decides needle (take (length needle) bytes)).0 h in
    let within = take-fits bytes needle same in
    record {
      fits = omega arith;
      reads = λ j below.
          let at : 0 + j ≡ j = omega arith in
          ap (λ k. get_or bytes k 0) at ∙ sym (get_or-take (length needle) bytes j 0 below) ∙ ap (λ l. get_or l j 0) (sym same);
    }

-- and the other way round
starts_with-front : (bytes needle : List ℕ) → OccursAt bytes needle 0 → starts_with nat_eq bytes needle ≡ true
starts_with-front bytes needle h =
    let n = length needle in
    let within : n ≤ length bytes = omega (arith, h.fits) in
    let front : needle ≡ take n bytes = ext_get_or 0 needle (take n bytes) (sym (length-take-le n bytes within))
    (λ j below.
    let at : j ≡ 0 + j = omega arith in
    sym (get_or-take n bytes j 0 below ∙ ap (λ k. get_or bytes k 0) at ∙ h.reads j below)) in
    (bytes_decides needle (take n bytes)).1 front

-- a needle that stands in the rest stands one place on in the whole
OccursAt-later : (c : ℕ) (cs needle : List ℕ) (k : ℕ) → OccursAt cs needle k → OccursAt (c ∷ cs) needle (suc k)
OccursAt-later c cs needle k h = record {
  fits = omega (arith, h.fits);
  reads = λ j below. let at : suc k + j ≡ suc (k + j) = omega arith in ap (λ i. get_or (c ∷ cs) i 0) at ∙ h.reads j below;
}

-- and the other way round
OccursAt-earlier : (c : ℕ) (cs needle : List ℕ) (k : ℕ) → OccursAt (c ∷ cs) needle (suc k) → OccursAt cs needle k
OccursAt-earlier c cs needle k h = record {
  fits = omega (arith, h.fits);
  reads = λ j below. let at : suc (k + j) ≡ suc k + j = omega arith in ap (λ i. get_or (c ∷ cs) i 0) at ∙ h.reads j below;
}

-- a needle that occurs has a place
occurs-place : (bytes needle : List ℕ) → occurs needle bytes ≡ true → (k : ℕ) × OccursAt bytes needle k
occurs-place [] needle h = (0, OccursAt-front [] needle h)
occurs-place (c ∷ cs) needle h =
    ⊎_elim
    (λ front. (0, OccursAt-front (c ∷ cs) needle front))
    (λ later. let place = occurs-place cs needle later in (suc place.0, OccursAt-later c cs needle place.0 place.1))
    (or_cases (starts_with nat_eq (c ∷ cs) needle) (occurs needle cs) h)

-- a needle that has a place occurs
occurs-OccursAt : (bytes needle : List ℕ) (k : ℕ) → OccursAt bytes needle k → occurs needle bytes ≡ true
occurs-OccursAt [] needle zero h = starts_with-front [] needle h
occurs-OccursAt [] needle (suc k) h = absurd (omega (arith, h.fits))
occurs-OccursAt (c ∷ cs) needle zero h = or_left (starts_with nat_eq (c ∷ cs) needle) (occurs needle cs) (starts_with-front (c ∷ cs) needle h)
occurs-OccursAt (c ∷ cs) needle (suc k) h =
    or_right (starts_with nat_eq (c ∷ cs) needle) (occurs needle cs) (occurs-OccursAt cs needle k (OccursAt-earlier c cs needle k h))

-- a search tells whether a needle occurs
pub is_some-occurs : (bytes needle : List ℕ) (r : Option ℕ) → FindsNeedle bytes needle 0 r → is_some r ≡ occurs needle bytes
is_some-occurs bytes needle None none =
    sym (false_from_ne_true (occurs needle bytes) (λ t. let place = occurs-place bytes needle t in none place.0 (omega arith) (omega (arith, place.1.fits)) place.1))
is_some-occurs bytes needle (Some k) first = sym (occurs-OccursAt bytes needle k first.1)
