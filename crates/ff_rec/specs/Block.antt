-- The block of a record, and where a field stands in it.
use Rattle.std.specs.Prelude.{◌≡◌, ℕ, suc, ◌-◌, ◌<◌, ◌≤◌, List, [], ◌∷◌, ◌++◌, length, take, drop, slice_range, slice_index, slice_index_or}
use Rattle.std.specs.List.{AllByRecursion}
use Rattle.ff_rec.specs.Lines.{IsPlain, cut, behind}
use Rattle.ff_rec.specs.Pieces.{Lacks}

-- a block of `count` fields, joined by tabs
pub record IsBlock (block : List ℕ) (count : ℕ) : Type 0 where
  pub counted : count ≡ length (cut 9 block)
  pub few : length (cut 9 block) ≤ 64
  pub plain : AllByRecursion IsPlain (cut 9 block)

-- the fields, each before a tab
abbrev pub before : List (List ℕ) → List ℕ
before [] = []
before (field ∷ fields) = field ++ 9 ∷ before fields

-- the piece `k` of a block, counted from 0, begins at `start`
pub record IsStart (block : List ℕ) (k start : ℕ) : Type 0 where
  pub within : start ≤ length block
  pub front : take start block ≡ before (take k (cut 9 block))
  pub rest : cut 9 (drop start block) ≡ drop k (cut 9 block)

-- the piece `k` of a block, counted from 0, stands from `start` up to `end`
pub record IsPlace (block : List ℕ) (k start end : ℕ) : Type 0 where
  pub order : start ≤ end
  pub within : end ≤ length block
  pub here : slice_range block start end ≡ slice_index_or (cut 9 block) k []
  pub front : take start block ≡ before (take k (cut 9 block))
  pub back : drop end block ≡ behind (drop (suc k) (cut 9 block))

-- the field that begins at `start` ends at `end`: no tab stands within, and one behind it where more bytes come
pub record IsFieldEnd (block : List ℕ) (start end : ℕ) : Type 0 where
  pub order : start ≤ end
  pub within : end ≤ length block
  pub clean : Lacks 9 (take (end - start) (drop start block))
  pub tab : end < length block → slice_index block end ≡ 9

-- the bytes with others in the place of those from `start` up to `end`
abbrev pub replaced : List ℕ → ℕ → ℕ → List ℕ → List ℕ
replaced bytes start end by = take start bytes ++ (by ++ drop end bytes)

-- the bytes with the part from `first` up to `first_end` and that from `second` up to `second_end` in each other's place
abbrev pub parts_swapped : List ℕ → ℕ → ℕ → ℕ → ℕ → List ℕ
parts_swapped bytes first first_end second second_end =
    take first bytes
    ++ ((slice_range bytes second second_end ++ (slice_range bytes first_end second ++ slice_range bytes first first_end)) ++ drop second_end bytes)
