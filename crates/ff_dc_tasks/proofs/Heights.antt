-- How many parts a division of so many levels has, and how long the paths to them are.
use Rattle.std.proofs.Common.{◌≡◌, ℕ, zero, suc, ◌+◌, ◌*◌, ◌^◌, ◌≤◌, inl, inr, Some, ap, arith}
use Rattle.std.proofs.Math.Nat.{mul-le-mul_left, pow-succ'}
use Rattle.std.proofs.lemmas.Nat.{pow_pos}
use Rattle.ff_dc.specs.Divisions.{Division, Whole, Cut, part_count, part_at}
use Rattle.ff_dc.proofs.PartsAt.{where_part}
use Rattle.ff_dc_tasks.specs.Paths.{path_from, IsLow}
use Rattle.ff_dc_tasks.proofs.PathsApart.{path-whole, path-in_left, path-in_right}

-- a division of so many levels has one level more
pub IsLow-more : (depth : ℕ) (d : Division) → IsLow depth d → IsLow (suc depth) d
IsLow-more depth (Whole p) low = tt
IsLow-more zero (Cut p l r) low = absurd low
IsLow-more (suc depth) (Cut p l r) low = (IsLow-more depth l low.0, IsLow-more depth r low.1)

pub part_count-low : (depth : ℕ) (d : Division) → IsLow depth d → part_count d + 1 ≤ 2 ^ suc depth
part_count-low depth (Whole p) low = omega (arith, pow-succ' 2 depth, pow_pos depth)
part_count-low zero (Cut p l r) low = absurd low
part_count-low (suc depth) (Cut p l r) low = omega (arith, pow-succ' 2 (suc depth), part_count-low depth l low.0, part_count-low depth r low.1)

least-pow : (c depth : ℕ) → c + 1 ≤ (c + 1) * 2 ^ depth
least-pow c depth = omega (arith, mul-le-mul_left (c + 1) (pow_pos depth))

pub path_from-low : (depth c : ℕ) (d : Division) (n : ℕ) (e : Division) → IsLow depth d → part_at d n ≡ Some e → path_from c d n + 1 ≤ (c + 1) * 2 ^ depth
path_from-low depth c (Whole p) n e low at = least-pow c depth
path_from-low zero c (Cut p l r) n e low at = absurd low
path_from-low (suc depth) c (Cut p l r) n e low at =
    elim (where_part p l r n e at) [
      | inl h ↦ omega (arith, least-pow c (suc depth), path-whole c (Cut p l r) n h.0)
      | inr o ↦ elim o [
        | inl h ↦ omega (arith, ap (λ (k : ℕ). (c + 1) * k) (pow-succ' 2 depth), pow_pos depth, path-in_left c p l r n h.0 h.1 h.2, path_from-low depth (2 * c) l h.0 e low.0 h.3)
        | inr h ↦ omega (arith, ap (λ (k : ℕ). (c + 1) * k) (pow-succ' 2 depth), path-in_right c p l r n h.0 h.1, path_from-low depth (2 * c + 1) r h.0 e low.1 h.2)
      ]
    ]
