-- Few numbers of 64 bits stay within the ends, whatever is asked of them.
use Rattle.std.proofs.Common.{ℕ, ◌*◌, ◌≤◌, List, length, drop, ℤ, pos, ◌≤ℤ◌, arith, length-take, length-drop}
use Rattle.std.specs.List.{All}
use Rattle.std.proofs.lemmas.Int.{ints}
use Rattle.std.proofs.lemmas.List.Elements.{All-take, All-drop}
use Rattle.ff_rec.specs.Number.{IsNumber}
use Rattle.ff_dc.specs.Spans.{Span, size, within}
use Rattle.ff_dc.specs.Fours.{IsWithin}
use Rattle.ff_dc.specs.Values.{total}
use Rattle.ff_dc.proofs.Totals.{Near, Near-total}

-- the numbers of a part: few, and all of them numbers
pub few-within : (ns : List ℤ) (p : Span) → length ns ≤ 262144 → length (within ns p) ≤ 262144
few-within ns p h = omega (arith, length-take (size p) (drop p.0 ns), length-drop p.0 ns)

pub numbers-within : (ns : List ℤ) (p : Span) → All IsNumber ns → All IsNumber (within ns p)
numbers-within ns p h = All-take IsNumber (size p) (drop p.0 ns) (All-drop IsNumber p.0 ns h)

pub within-total : (xs : List ℤ) → All IsNumber xs → length xs ≤ 262144 → IsWithin (total xs)
within-total xs h few = let n : Near (length xs) (total xs) = Near-total xs h in (omega (arith, ints, n.low), omega (arith, ints, n.high))

pub within-up : (z : ℤ) (n : ℕ) → n ≤ 262144 → pos 0 ≤ℤ z → z ≤ℤ pos (n * 9223372036854775808) → IsWithin z
within-up z n few low high = (omega (arith, ints), omega (arith, ints))

pub within-count : (n : ℕ) → n ≤ 262144 → IsWithin (pos n)
within-count n h = (omega (arith, ints), omega (arith, ints))
