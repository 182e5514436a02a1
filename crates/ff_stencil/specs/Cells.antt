-- Turns of a line of cells, said of the whole line.
use Rattle.std.specs.Prelude.{ℕ, zero, suc, ◌+◌, ◌-◌, ◌%◌, ◌==◌, nat_lt, Bool, not, if◌then◌else◌, List, map, length, slice_index_or, count_by, ℤ, pos, ◌+ℤ◌, ◌*ℤ◌, int_div, unsigned_abs, int_le, ◌&&◌}
use Rattle.std.specs.Int.{int_max}
use Rattle.std.specs.List.{range_with_len}
use Rattle.ff_stencil.specs.declared.rule.StencilRule.{StencilRule}
use Rattle.ff_stencil.specs.declared.rule.StencilRule.TheVariants.{Smooth, Max, Parity}

-- the cell at a place, counted from 0
abbrev pub cell : List ℤ → ℕ → ℤ
cell ns i = slice_index_or ns i (pos 0)

-- whether a number is odd, also one below 0
abbrev pub is_odd : ℤ → Bool
is_odd n = unsigned_abs n % 2 == 1

-- whether two numbers are equal
abbrev pub same : ℤ → ℤ → Bool
same x y = int_le x y && int_le y x

-- 1 where exactly one is odd, else 0
abbrev pub one_odd : Bool → Bool → ℤ
one_odd l r = if l then (if r then pos 0 else pos 1) else (if r then pos 1 else pos 0)

-- the new cell for `c` between `l` and `r`
abbrev pub new_cell : StencilRule → ℤ → ℤ → ℤ → ℤ
new_cell Smooth l c r = int_div ((l +ℤ (pos 2 *ℤ c)) +ℤ r) (pos 4)
new_cell Max l c r = int_max (int_max l c) r
new_cell Parity l c r = one_odd (is_odd l) (is_odd r)

-- what stands beside the first or the last cell, past the end
abbrev pub past_end : StencilRule → ℤ → ℤ
past_end Smooth c = c
past_end Max c = c
past_end Parity c = pos 0

-- the left neighbour of cell `i` of the line
abbrev pub left : StencilRule → List ℤ → ℕ → ℤ
left rule ns i = if i == 0 then past_end rule (cell ns 0) else cell ns (i - 1)

-- its right neighbour
abbrev pub right : StencilRule → List ℤ → ℕ → ℤ
right rule ns i = if nat_lt (i + 1) (length ns) then cell ns (i + 1) else past_end rule (cell ns i)

-- cell `i` after a turn
abbrev pub next_cell : StencilRule → List ℤ → ℕ → ℤ
next_cell rule ns i = new_cell rule (left rule ns i) (cell ns i) (right rule ns i)

-- whether a turn changes cell `i`
abbrev pub changed : StencilRule → List ℤ → ℕ → Bool
changed rule ns i = not (same (next_cell rule ns i) (cell ns i))

-- the line after a turn
abbrev pub turned : StencilRule → List ℤ → List ℤ
turned rule ns = map (next_cell rule ns) (range_with_len 0 (length ns))

-- how many cells a turn changes
abbrev pub changes : StencilRule → List ℤ → ℕ
changes rule ns = count_by (changed rule ns) (range_with_len 0 (length ns))

-- the line and the number of turns after so many turns, or after the first one that changed no cell
unfoldable pub sweep : StencilRule → List ℤ → ℕ → List ℤ × ℕ
sweep rule ns zero = (ns, 0)
sweep rule ns (suc t) =
    if changes rule ns == 0
    then (turned rule ns, 1)
    else ((sweep rule (turned rule ns) t).0, (sweep rule (turned rule ns) t).1 + 1)
