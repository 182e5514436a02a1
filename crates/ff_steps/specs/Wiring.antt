-- Which edges each party of a core reads and writes.
use Rattle.std.specs.Prelude.{◌≡◌, ℕ, ◌<◌, List, [], ◌∷◌, ◌++◌, length, slice_index, slice_index_or}

-- the edges that a party reads, and those that it writes, in the order of its ins and outs
pub record Row : Type 0 where
  pub ins : List ℕ
  pub outs : List ℕ

-- the row of party `p`
abbrev pub row_at : List Row → ℕ → Row
row_at rows p = slice_index_or rows p (record { ins = []; outs = [] })

-- each edge has at most one reader and one writer
pub record IsWired (rows : List Row) (edges : ℕ) : Type 0 where
  pub ins_within : (p i : ℕ) → p < length rows → i < length (row_at rows p).ins → slice_index (row_at rows p).ins i < edges
  pub outs_within : (p i : ℕ) → p < length rows → i < length (row_at rows p).outs → slice_index (row_at rows p).outs i < edges
  pub one_reader : (p q i j : ℕ) → p < length rows → q < length rows → i < length (row_at rows p).ins → j < length (row_at rows q).ins
      → slice_index (row_at rows p).ins i ≡ slice_index (row_at rows q).ins j → (p ≡ q) × (i ≡ j)
  pub one_writer : (p q i j : ℕ) → p < length rows → q < length rows → i < length (row_at rows p).outs → j < length (row_at rows q).outs
      → slice_index (row_at rows p).outs i ≡ slice_index (row_at rows q).outs j → (p ≡ q) × (i ≡ j)
  pub no_loop : (p i j : ℕ) → p < length rows → i < length (row_at rows p).ins → j < length (row_at rows p).outs
      → slice_index (row_at rows p).ins i ≡ slice_index (row_at rows p).outs j → ⊥

-- the ends of one party: each within the edges, and no edge twice
pub record IsPortRow (row : Row) (edges : ℕ) : Type 0 where
  pub ins_within : (i : ℕ) → i < length row.ins → slice_index row.ins i < edges
  pub outs_within : (i : ℕ) → i < length row.outs → slice_index row.outs i < edges
  pub ins_differ : (i j : ℕ) → i < length row.ins → j < length row.ins → slice_index row.ins i ≡ slice_index row.ins j → i ≡ j
  pub outs_differ : (i j : ℕ) → i < length row.outs → j < length row.outs → slice_index row.outs i ≡ slice_index row.outs j → i ≡ j
  pub apart : (i j : ℕ) → i < length row.ins → j < length row.outs → slice_index row.ins i ≡ slice_index row.outs j → ⊥

-- the feeder writes edge 0, and the drainer reads edge 1
abbrev pub feeder_row : Row
feeder_row = record { ins = []; outs = 0 ∷ [] }

abbrev pub drainer_row : Row
drainer_row = record { ins = 1 ∷ []; outs = [] }

-- the rows of all parties, by those of the units
abbrev pub all_rows : List Row → List Row
all_rows rows = rows ++ feeder_row ∷ drainer_row ∷ []
