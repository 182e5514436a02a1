-- A turn by chunks, each with one halo cell at each side.
use Rattle.std.specs.Prelude.{replicate, ◌/◌, ◌%◌, ◌<◌, ◌≡◌, ℕ, ◌+◌, ◌-◌, ◌==◌, nat_lt, not, Bool, if◌then◌else◌, List, [], ◌∷◌, ◌++◌, map, length, count_by, sum, ℤ}
use Rattle.std.specs.List.{range_with_len}
use Rattle.ff_stencil.specs.declared.rule.StencilRule.{StencilRule}
use Rattle.ff_stencil.specs.Cells.{cell, same, new_cell, past_end, turned, changes}

-- what is seen at place `p` of the line with one cell more at each side: its cell `i` at place `i + 1`
abbrev pub seen : StencilRule → List ℤ → ℕ → ℤ
seen rule ns p =
    if p == 0 then past_end rule (cell ns 0) else
    (if nat_lt (length ns) p then past_end rule (cell ns (length ns - 1)) else cell ns (p - 1))

-- the chunk of `n` cells from place `from` on, with its halo cells
abbrev pub chunk : StencilRule → List ℤ → ℕ → ℕ → List ℤ
chunk rule ns from n = map (seen rule ns) (range_with_len from (n + 2))

-- new cell `k` of a chunk, from the cells of the chunk alone
abbrev pub fresh_cell : StencilRule → List ℤ → ℕ → ℤ
fresh_cell rule xs k = new_cell rule (cell xs k) (cell xs (k + 1)) (cell xs (k + 2))

-- whether it changed
abbrev pub fresh_changed : StencilRule → List ℤ → ℕ → Bool
fresh_changed rule xs k = not (same (fresh_cell rule xs k) (cell xs (k + 1)))

-- all new cells of a chunk
abbrev pub fresh : StencilRule → List ℤ → List ℤ
fresh rule xs = map (fresh_cell rule xs) (range_with_len 0 (length xs - 2))

-- how many of them changed
abbrev pub fresh_changes : StencilRule → List ℤ → ℕ
fresh_changes rule xs = count_by (fresh_changed rule xs) (range_with_len 0 (length xs - 2))

-- the new cells of chunks of these sizes, from a place on, joined
abbrev pub joined : StencilRule → List ℤ → ℕ → List ℕ → List ℤ
joined rule ns from [] = []
joined rule ns from (n ∷ sizes) = fresh rule (chunk rule ns from n) ++ joined rule ns (from + n) sizes

-- the changes of these chunks, added up
abbrev pub added : StencilRule → List ℤ → ℕ → List ℕ → ℕ
added rule ns from [] = 0
added rule ns from (n ∷ sizes) = fresh_changes rule (chunk rule ns from n) + added rule ns (from + n) sizes

-- however the line is cut into chunks, their new cells joined are the line after the turn
abbrev pub ChunksMakeTheTurn : Type 0
ChunksMakeTheTurn = (rule : StencilRule) (ns : List ℤ) (sizes : List ℕ) → sum sizes ≡ length ns → joined rule ns 0 sizes ≡ turned rule ns

-- their changes are those of the turn
abbrev pub ChangesAddUp : Type 0
ChangesAddUp = (rule : StencilRule) (ns : List ℤ) (sizes : List ℕ) → sum sizes ≡ length ns → added rule ns 0 sizes ≡ changes rule ns

-- chunks of one size, the last one shorter
abbrev pub sizes : ℕ → ℕ → List ℕ
sizes size n = replicate (n / size) size ++ (n % size) ∷ []

-- chunks of one size make the turn
abbrev pub ChunksOfOneSize : Type 0
ChunksOfOneSize = (rule : StencilRule) (ns : List ℤ) (size : ℕ) → 0 < size → joined rule ns 0 (sizes size (length ns)) ≡ turned rule ns
