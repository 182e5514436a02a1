-- Paths to the parts of a division, from part to part.
use Rattle.std.proofs.Common.{◌≡◌, ℕ, ◌+◌, ◌-◌, ◌*◌, ◌<◌, ◌⊎◌, inl, inr, Some, refl, ap, ◌∙◌, sym, arith}
use Rattle.std.proofs.lemmas.Bool.{cases_eq, cond-true, cond-false, ne_eqb, le-leb, lt-leb}
use Rattle.ff_dc.specs.Spans.{Span}
use Rattle.ff_dc.specs.Divisions.{Division, Whole, Cut, part_count, part_at}
use Rattle.ff_dc.proofs.PartsAt.{part_count-positive, part_at-in_left, part_at-in_right, where_part, only_part, part_at-room}
use Rattle.ff_dc_tasks.specs.Paths.{path_from}

pub path_from-first : (c : ℕ) (d : Division) → path_from c d 0 ≡ c
path_from-first c (Whole p) = refl
path_from-first c (Cut p l r) = refl

pub path_from-in_left : (c : ℕ) (p : Span) (l r : Division) (n : ℕ) → n < part_count l → path_from c (Cut p l r) (n + 1) ≡ path_from (2 * c) l n
path_from-in_left c p l r n h =
    cond-false _ _ _ (ne_eqb (n + 1) 0 (λ e. omega arith))
    ∙ cond-true _ _ _ (le-leb (n + 1) (part_count l) (omega arith))
    ∙ ap (λ (k : ℕ). path_from (2 * c) l k) (let e : n + 1 - 1 ≡ n = omega arith in e)

pub path_from-in_right : (c : ℕ) (p : Span) (l r : Division) (n : ℕ) → path_from c (Cut p l r) (n + 1 + part_count l) ≡ path_from (2 * c + 1) r n
path_from-in_right c p l r n =
    cond-false _ _ _ (ne_eqb (n + 1 + part_count l) 0 (λ e. omega arith))
    ∙ cond-false _ _ _ (lt-leb (n + 1 + part_count l) (part_count l) (omega arith))
    ∙ ap (λ (k : ℕ). path_from (2 * c + 1) r k) (let e : n + 1 + part_count l - 1 - part_count l ≡ n = omega arith in e)

-- the paths to the two parts of a part
pub path_from-left : (c : ℕ) (d : Division) (n : ℕ) (q : Span) (a b : Division) → part_at d n ≡ Some (Cut q a b) → path_from c d (n + 1) ≡ 2 * path_from c d n
path_from-left c (Whole p) n q a b is = absurd (let h : Whole p ≡ Cut q a b = (only_part p n (Cut q a b) is).1 in cc)
path_from-left c (Cut p l r) n q a b is =
    elim (where_part p l r n (Cut q a b) is) [
      | inl h ↦
          path_from-in_left c p l r n (omega (arith, h.0, part_count-positive l)) ∙ ap (λ (k : ℕ). path_from (2 * c) l k) h.0 ∙ path_from-first (2 * c) l
          ∙ ap (λ (k : ℕ). 2 * path_from c (Cut p l r) k) (sym h.0)
      | inr o ↦ elim o [
        | inl h ↦
            ap (λ (k : ℕ). path_from c (Cut p l r) k) (let e : n + 1 ≡ h.0 + 1 + 1 = omega (arith, h.1) in e)
            ∙ path_from-in_left c p l r (h.0 + 1) (omega (arith, part_at-room l h.0 (Cut q a b) h.3, part_count-positive a, part_count-positive b))
            ∙ path_from-left (2 * c) l h.0 q a b h.3
            ∙ ap (λ (k : ℕ). 2 * k) (sym (path_from-in_left c p l r h.0 h.2))
            ∙ ap (λ (k : ℕ). 2 * path_from c (Cut p l r) k) (sym h.1)
        | inr h ↦
            ap (λ (k : ℕ). path_from c (Cut p l r) k) (let e : n + 1 ≡ h.0 + 1 + 1 + part_count l = omega (arith, h.1) in e)
            ∙ path_from-in_right c p l r (h.0 + 1)
            ∙ path_from-left (2 * c + 1) r h.0 q a b h.2
            ∙ ap (λ (k : ℕ). 2 * k) (sym (path_from-in_right c p l r h.0))
            ∙ ap (λ (k : ℕ). 2 * path_from c (Cut p l r) k) (sym h.1)
      ]
    ]

pub path_from-right : (c : ℕ) (d : Division) (n : ℕ) (q : Span) (a b : Division) → part_at d n ≡ Some (Cut q a b)
    → path_from c d (n + 1 + part_count a) ≡ 2 * path_from c d n + 1
path_from-right c (Whole p) n q a b is = absurd (let h : Whole p ≡ Cut q a b = (only_part p n (Cut q a b) is).1 in cc)
path_from-right c (Cut p l r) n q a b is =
    elim (where_part p l r n (Cut q a b) is) [
      | inl h ↦
          let same : Cut p l r ≡ Cut q a b = h.1 in
          let left : l ≡ a = cc in
          ap (λ (k : ℕ). path_from c (Cut p l r) k) (let e : n + 1 + part_count a ≡ 0 + 1 + part_count l = omega (arith, h.0, ap part_count left) in e)
          ∙ path_from-in_right c p l r 0 ∙ path_from-first (2 * c + 1) r
          ∙ ap (λ (k : ℕ). 2 * path_from c (Cut p l r) k + 1) (sym h.0)
      | inr o ↦ elim o [
        | inl h ↦
            ap (λ (k : ℕ). path_from c (Cut p l r) k) (let e : n + 1 + part_count a ≡ h.0 + 1 + part_count a + 1 = omega (arith, h.1) in e)
            ∙ path_from-in_left c p l r (h.0 + 1 + part_count a) (omega (arith, part_at-room l h.0 (Cut q a b) h.3, part_count-positive a, part_count-positive b))
            ∙ path_from-right (2 * c) l h.0 q a b h.3
            ∙ ap (λ (k : ℕ). 2 * k + 1) (sym (path_from-in_left c p l r h.0 h.2))
            ∙ ap (λ (k : ℕ). 2 * path_from c (Cut p l r) k + 1) (sym h.1)
        | inr h ↦
            ap (λ (k : ℕ). path_from c (Cut p l r) k) (let e : n + 1 + part_count a ≡ h.0 + 1 + part_count a + 1 + part_count l = omega (arith, h.1) in e)
            ∙ path_from-in_right c p l r (h.0 + 1 + part_count a)
            ∙ path_from-right (2 * c + 1) r h.0 q a b h.2
            ∙ ap (λ (k : ℕ). 2 * k + 1) (sym (path_from-in_right c p l r h.0))
            ∙ ap (λ (k : ℕ). 2 * path_from c (Cut p l r) k + 1) (sym h.1)
      ]
    ]

-- a part of which this is one of the two
pub record IsParent (d : Division) (n m : ℕ) : Type 0 where
  pub span : Span
  pub left : Division
  pub right : Division
  pub at : part_at d m ≡ Some (Cut span left right)
  pub side : (n ≡ m + 1) ⊎ (n ≡ m + 1 + part_count left)

-- each part but the whole is one of the two of another
pub parent_of : (d : Division) (n : ℕ) (e : Division) → part_at d n ≡ Some e → 0 < n → (m : ℕ) × IsParent d n m
parent_of (Whole p) n e is some = absurd (omega (arith, (only_part p n e is).0))
parent_of (Cut p l r) n e is some =
    elim (where_part p l r n e is) [
      | inl h ↦ absurd (omega (arith, h.0))
      | inr o ↦ elim o [
        | inl h ↦ elim (cases_eq h.0 0) [
          | inl none ↦ (0, record { span = p; left = l; right = r; at = refl; side = inl (omega (arith, h.1, none)) })
          | inr more ↦
              let up : (m : ℕ) × IsParent l h.0 m = parent_of l h.0 e h.3 (omega (arith, more)) in
              let u : IsParent l h.0 up.0 = up.1 in (
                up.0 + 1,
                record {
                  span = u.span;
                  left = u.left;
                  right = u.right;
                  at = part_at-in_left p l r up.0 (omega (arith, part_at-room l up.0 (Cut u.span u.left u.right) u.at, part_count-positive u.left)) ∙ u.at;
                  side = elim u.side [
                    | inl s ↦ inl (omega (arith, s, h.1))
                    | inr s ↦ inr (omega (arith, s, h.1))
                  ];
                },
              )
        ]
        | inr h ↦ elim (cases_eq h.0 0) [
          | inl none ↦ (0, record { span = p; left = l; right = r; at = refl; side = inr (omega (arith, h.1, none)) })
          | inr more ↦
              let up : (m : ℕ) × IsParent r h.0 m = parent_of r h.0 e h.2 (omega (arith, more)) in
              let u : IsParent r h.0 up.0 = up.1 in (
                up.0 + 1 + part_count l,
                record {
                  span = u.span;
                  left = u.left;
                  right = u.right;
                  at = part_at-in_right p l r up.0 ∙ u.at;
                  side = elim u.side [
                    | inl s ↦ inl (omega (arith, s, h.1))
                    | inr s ↦ inr (omega (arith, s, h.1))
                  ];
                },
              )
        ]
      ]
    ]
