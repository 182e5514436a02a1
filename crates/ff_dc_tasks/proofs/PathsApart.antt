-- Each part of a division has a path of its own.
use Rattle.std.proofs.Common.{◌≡◌, ℕ, zero, suc, ◌+◌, ◌-◌, ◌*◌, ◌/◌, ◌<◌, ◌≤◌, inl, inr, Some, refl, ap, ◌∙◌, sym, arith}
use Rattle.std.proofs.lemmas.Bool.{cases_order}
use Rattle.ff_dc.specs.Spans.{Span}
use Rattle.ff_dc.specs.Divisions.{Division, Whole, Cut, part_count, part_at}
use Rattle.ff_dc.proofs.PartsAt.{where_part, only_part}
use Rattle.ff_dc_tasks.specs.Paths.{path_from}
use Rattle.ff_dc_tasks.proofs.PathSteps.{path_from-first, path_from-in_left, path_from-in_right}

-- a path, so many levels up
abbrev up : ℕ → ℕ → ℕ
up zero x = x
up (suc k) x = up k x / 2

up-more : (j k x : ℕ) → up (j + k) x ≤ up k x
up-more zero k x = let e : 0 + k ≡ k = omega arith in omega (arith, ap (λ (i : ℕ). up i x) e)
up-more (suc j) k x =
    let e : suc j + k ≡ suc (j + k) = omega arith in
    omega (arith, up-more j k x, ap (λ (i : ℕ). up i x) e)

-- further up it is no more than a half
up-half : (j k x : ℕ) → j < k → up k x ≤ up j x / 2
up-half j k x h =
    let e : k ≡ (k - suc j) + suc j = omega arith in
    omega (arith, up-more (k - suc j) (suc j) x, ap (λ (i : ℕ). up i x) e)

-- each path leads up to the part that it is counted from
up-path : (c : ℕ) (d : Division) (n : ℕ) (e : Division) → part_at d n ≡ Some e → (k : ℕ) × (up k (path_from c d n) ≡ c)
up-path c (Whole p) n e is = (0, refl)
up-path c (Cut p l r) n e is =
    elim (where_part p l r n e is) [
      | inl h ↦ (0, ap (λ (k : ℕ). path_from c (Cut p l r) k) h.0)
      | inr o ↦ elim o [
        | inl h ↦
            let rest : (k : ℕ) × (up k (path_from (2 * c) l h.0) ≡ 2 * c) = up-path (2 * c) l h.0 e h.3 in
            let same : path_from c (Cut p l r) n ≡ path_from (2 * c) l h.0 = ap (λ (k : ℕ). path_from c (Cut p l r) k) h.1 ∙ path_from-in_left c p l r h.0 h.2 in
            (suc rest.0, omega (arith, rest.1, ap (λ (x : ℕ). up rest.0 x) same))
        | inr h ↦
            let rest : (k : ℕ) × (up k (path_from (2 * c + 1) r h.0) ≡ 2 * c + 1) = up-path (2 * c + 1) r h.0 e h.2 in
            let same : path_from c (Cut p l r) n ≡ path_from (2 * c + 1) r h.0 = ap (λ (k : ℕ). path_from c (Cut p l r) k) h.1 ∙ path_from-in_right c p l r h.0 in
            (suc rest.0, omega (arith, rest.1, ap (λ (x : ℕ). up rest.0 x) same))
      ]
    ]

-- the path to a part of a part is at least that to the part
path_from-least : (c : ℕ) (d : Division) (n : ℕ) (e : Division) → part_at d n ≡ Some e → c ≤ path_from c d n
path_from-least c d n e is =
    let rest : (k : ℕ) × (up k (path_from c d n) ≡ c) = up-path c d n e is in
    let same : rest.0 + 0 ≡ rest.0 = omega arith in
    omega (arith, rest.1, up-more rest.0 0 (path_from c d n), ap (λ (i : ℕ). up i (path_from c d n)) same)

-- paths in the left and in the right part aren't the same
paths-apart : (c x j k : ℕ) → 1 ≤ c → up j x ≡ 2 * c → up k x ≡ 2 * c + 1 → ⊥
paths-apart c x j k some left right = elim (cases_order j k) [
  | inl e ↦ omega (arith, left, right, ap (λ (i : ℕ). up i x) e)
  | inr o ↦ elim o [
    | inl h ↦ omega (arith, left, right, up-half j k x h)
    | inr h ↦ omega (arith, left, right, up-half k j x h)
  ]
]

-- the path to a part, by where it stands
pub path-whole : (c : ℕ) (d : Division) (n : ℕ) → n ≡ 0 → path_from c d n ≡ c
path-whole c d n none = ap (λ (k : ℕ). path_from c d k) none ∙ path_from-first c d

pub path-in_left : (c : ℕ) (p : Span) (l r : Division) (n j : ℕ) → n ≡ j + 1 → j < part_count l → path_from c (Cut p l r) n ≡ path_from (2 * c) l j
path-in_left c p l r n j is small = ap (λ (k : ℕ). path_from c (Cut p l r) k) is ∙ path_from-in_left c p l r j small

pub path-in_right : (c : ℕ) (p : Span) (l r : Division) (n j : ℕ) → n ≡ j + 1 + part_count l → path_from c (Cut p l r) n ≡ path_from (2 * c + 1) r j
path-in_right c p l r n j is = ap (λ (k : ℕ). path_from c (Cut p l r) k) is ∙ path_from-in_right c p l r j

sides-apart : (c : ℕ) (l r : Division) (i j : ℕ) (e f : Division) → 1 ≤ c → part_at l i ≡ Some e → part_at r j ≡ Some f
    → path_from (2 * c) l i ≡ path_from (2 * c + 1) r j → ⊥
sides-apart c l r i j e f some at_i at_j same =
    let u : (k : ℕ) × (up k (path_from (2 * c) l i) ≡ 2 * c) = up-path (2 * c) l i e at_i in
    let v : (k : ℕ) × (up k (path_from (2 * c + 1) r j) ≡ 2 * c + 1) = up-path (2 * c + 1) r j f at_j in
    paths-apart c (path_from (2 * c) l i) u.0 v.0 some u.1 (ap (λ (x : ℕ). up v.0 x) same ∙ v.1)

-- parts to which the paths are the same have the same number
pub path_from-one : (c : ℕ) (d : Division) (n m : ℕ) (e f : Division) → 1 ≤ c → part_at d n ≡ Some e → part_at d m ≡ Some f
    → path_from c d n ≡ path_from c d m → n ≡ m
path_from-one c (Whole p) n m e f some at_n at_m same = (only_part p n e at_n).0 ∙ sym (only_part p m f at_m).0
path_from-one c (Cut p l r) n m e f some at_n at_m same =
    elim (where_part p l r n e at_n) [
      | inl x ↦ elim (where_part p l r m f at_m) [
        | inl y ↦ x.0 ∙ sym y.0
        | inr o ↦ elim o [
          | inl y ↦ absurd (omega (
            arith,
            same,
            some,
            path-whole c (Cut p l r) n x.0,
            path-in_left c p l r m y.0 y.1 y.2,
            path_from-least (2 * c) l y.0 f y.3,
          ))
          | inr y ↦ absurd (omega (
            arith,
            same,
            some,
            path-whole c (Cut p l r) n x.0,
            path-in_right c p l r m y.0 y.1,
            path_from-least (2 * c + 1) r y.0 f y.2,
          ))
        ]
      ]
      | inr q ↦ elim q [
        | inl x ↦ elim (where_part p l r m f at_m) [
          | inl y ↦ absurd (omega (
            arith,
            same,
            some,
            path-whole c (Cut p l r) m y.0,
            path-in_left c p l r n x.0 x.1 x.2,
            path_from-least (2 * c) l x.0 e x.3,
          ))
          | inr o ↦ elim o [
            | inl y ↦
                let in_left : path_from (2 * c) l x.0 ≡ path_from (2 * c) l y.0 = sym (path-in_left c p l r n x.0 x.1 x.2) ∙ same ∙ path-in_left c p l r m y.0 y.1 y.2 in
                omega (arith, x.1, y.1, path_from-one (2 * c) l x.0 y.0 e f (omega arith) x.3 y.3 in_left)
            | inr y ↦ absurd (sides-apart c l r x.0 y.0 e f some x.3 y.2 (sym (path-in_left c p l r n x.0 x.1 x.2) ∙ same ∙ path-in_right c p l r m y.0 y.1))
          ]
        ]
        | inr x ↦ elim (where_part p l r m f at_m) [
          | inl y ↦ absurd (omega (
            arith,
            same,
            some,
            path-whole c (Cut p l r) m y.0,
            path-in_right c p l r n x.0 x.1,
            path_from-least (2 * c + 1) r x.0 e x.2,
          ))
          | inr o ↦ elim o [
            | inl y ↦ absurd (sides-apart c l r y.0 x.0 f e some y.3 x.2
                (sym (path-in_left c p l r m y.0 y.1 y.2) ∙ sym same ∙ path-in_right c p l r n x.0 x.1))
            | inr y ↦
                let in_right : path_from (2 * c + 1) r x.0 ≡ path_from (2 * c + 1) r y.0 = sym (path-in_right c p l r n x.0 x.1) ∙ same ∙ path-in_right c p l r m y.0 y.1 in
                omega (arith, x.1, y.1, path_from-one (2 * c + 1) r x.0 y.0 e f (omega arith) x.2 y.2 in_right)
          ]
        ]
      ]
    ]
