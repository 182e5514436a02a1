-- Which part has a number, in a division and in its parts.
use Rattle.std.proofs.Common.{◌≡◌, ℕ, suc, zero, ◌+◌, ◌-◌, ◌<◌, ◌≤◌, ◌⊎◌, inl, inr, Some, None, refl, ap, ◌∙◌, sym, arith}
use Rattle.std.proofs.lemmas.Bool.{cases_lt, cond-true, cond-false, ne_eqb, le-leb, lt-leb}
use Rattle.ff_dc.specs.Spans.{Span}
use Rattle.ff_dc.specs.Divisions.{Division, Whole, Cut, part_count, part_at}

-- a division has at least one part
pub part_count-positive : (d : Division) → 1 ≤ part_count d
part_count-positive (Whole p) = omega arith
part_count-positive (Cut p l r) = omega arith

pub part_at-first : (d : Division) → part_at d 0 ≡ Some d
part_at-first (Whole p) = refl
part_at-first (Cut p l r) = refl

pub part_at-in_left : (p : Span) (l r : Division) (n : ℕ) → n < part_count l → part_at (Cut p l r) (n + 1) ≡ part_at l n
part_at-in_left p l r n h =
    cond-false _ _ _ (ne_eqb (n + 1) 0 (λ e. omega arith))
    ∙ cond-true _ _ _ (le-leb (n + 1) (part_count l) (omega arith))
    ∙ ap (λ (k : ℕ). part_at l k) (let e : n + 1 - 1 ≡ n = omega arith in e)

pub part_at-in_right : (p : Span) (l r : Division) (n : ℕ) → part_at (Cut p l r) (n + 1 + part_count l) ≡ part_at r n
part_at-in_right p l r n =
    cond-false _ _ _ (ne_eqb (n + 1 + part_count l) 0 (λ e. omega arith))
    ∙ cond-false _ _ _ (lt-leb (n + 1 + part_count l) (part_count l) (omega arith))
    ∙ ap (λ (k : ℕ). part_at r k) (let e : n + 1 + part_count l - 1 - part_count l ≡ n = omega arith in e)

-- where a number may stand
pub where_part : (p : Span) (l r : Division) (n : ℕ) (e : Division) → part_at (Cut p l r) n ≡ Some e
    → ((n ≡ 0) × (Cut p l r ≡ e))
    ⊎ (((m : ℕ) × (n ≡ m + 1) × (m < part_count l) × (part_at l m ≡ Some e))
    ⊎ ((m : ℕ) × (n ≡ m + 1 + part_count l) × (part_at r m ≡ Some e)))
where_part p l r zero e is = inl (refl, (cc))
where_part p l r (suc m) e is =
    elim (cases_lt m (part_count l)) [
      | inl h ↦ inr (inl (m, omega arith, h, sym (part_at-in_left p l r m h) ∙ ap (λ (k : ℕ). part_at (Cut p l r) k) (let f : m + 1 ≡ suc m = omega arith in f) ∙ is))
      | inr h ↦
          let k : ℕ = m - part_count l in
          inr (inr (
            k,
            omega arith,
            sym (part_at-in_right p l r k) ∙ ap (λ (j : ℕ). part_at (Cut p l r) j) (let f : k + 1 + part_count l ≡ suc m = omega arith in f) ∙ is,
          ))
    ]

pub only_part : (p : Span) (n : ℕ) (e : Division) → part_at (Whole p) n ≡ Some e → (n ≡ 0) × (Whole p ≡ e)
only_part p zero e is = (refl, (cc))
only_part p (suc n) e is = absurd (let h : part_at (Whole p) (suc n) ≡ None = cond-false _ _ _ (ne_eqb (suc n) 0 (λ f. omega arith)) in cc)

-- the part with a number and all its parts have numbers
pub part_at-room : (d : Division) (n : ℕ) (e : Division) → part_at d n ≡ Some e → n + part_count e ≤ part_count d
part_at-room (Whole p) n e is = let h = only_part p n e is in omega (arith, h.0, ap part_count h.1)
part_at-room (Cut p l r) n e is =
    elim (where_part p l r n e is) [
      | inl h ↦ omega (arith, h.0, ap part_count h.1)
      | inr o ↦ elim o [
        | inl h ↦ omega (arith, h.1, part_at-room l h.0 e h.3)
        | inr h ↦ omega (arith, h.1, part_at-room r h.0 e h.2)
      ]
    ]

-- the numbers of the two parts of a part
pub part_at-left : (d : Division) (n : ℕ) (q : Span) (a b : Division) → part_at d n ≡ Some (Cut q a b) → part_at d (n + 1) ≡ Some a
part_at-left (Whole p) n q a b is = absurd (let h : Whole p ≡ Cut q a b = (only_part p n (Cut q a b) is).1 in cc)
part_at-left (Cut p l r) n q a b is =
    elim (where_part p l r n (Cut q a b) is) [
      | inl h ↦
          part_at-in_left p l r n (omega (arith, h.0, part_count-positive l)) ∙ ap (λ (k : ℕ). part_at l k) h.0 ∙ part_at-first l
          ∙ (let e : Cut p l r ≡ Cut q a b = h.1 in cc)
      | inr o ↦ elim o [
        | inl h ↦
            ap (λ (k : ℕ). part_at (Cut p l r) k) (let e : n + 1 ≡ h.0 + 1 + 1 = omega (arith, h.1) in e)
            ∙ part_at-in_left p l r (h.0 + 1) (omega (arith, part_at-room l h.0 (Cut q a b) h.3, part_count-positive a, part_count-positive b))
            ∙ part_at-left l h.0 q a b h.3
        | inr h ↦
            ap (λ (k : ℕ). part_at (Cut p l r) k) (let e : n + 1 ≡ h.0 + 1 + 1 + part_count l = omega (arith, h.1) in e)
            ∙ part_at-in_right p l r (h.0 + 1)
            ∙ part_at-left r h.0 q a b h.2
      ]
    ]

pub part_at-right : (d : Division) (n : ℕ) (q : Span) (a b : Division) → part_at d n ≡ Some (Cut q a b) → part_at d (n + 1 + part_count a) ≡ Some b
part_at-right (Whole p) n q a b is = absurd (let h : Whole p ≡ Cut q a b = (only_part p n (Cut q a b) is).1 in cc)
part_at-right (Cut p l r) n q a b is =
    elim (where_part p l r n (Cut q a b) is) [
      | inl h ↦
          (let e : Cut p l r ≡ Cut q a b = h.1 in
          let la : l ≡ a = cc in
          let rb : r ≡ b = cc in
          ap (λ (k : ℕ). part_at (Cut p l r) k) (let e : n + 1 + part_count a ≡ 0 + 1 + part_count l = omega (arith, h.0, ap part_count la) in e)
          ∙ part_at-in_right p l r 0 ∙ part_at-first r ∙ ap (λ (d : Division). Some d) rb)
      | inr o ↦ elim o [
        | inl h ↦
            ap (λ (k : ℕ). part_at (Cut p l r) k) (let e : n + 1 + part_count a ≡ h.0 + 1 + part_count a + 1 = omega (arith, h.1) in e)
            ∙ part_at-in_left p l r (h.0 + 1 + part_count a) (omega (arith, part_at-room l h.0 (Cut q a b) h.3, part_count-positive a, part_count-positive b))
            ∙ part_at-right l h.0 q a b h.3
        | inr h ↦
            ap (λ (k : ℕ). part_at (Cut p l r) k) (let e : n + 1 + part_count a ≡ h.0 + 1 + part_count a + 1 + part_count l = omega (arith, h.1) in e)
            ∙ part_at-in_right p l r (h.0 + 1 + part_count a)
            ∙ part_at-right r h.0 q a b h.2
      ]
    ]
