-- Values by key as a map holds them, and as entries in byte order of the keys.
use Rattle.std.specs.Prelude.{◌≡◌, ℕ, nat_eq, List, [], map, Option}
use Rattle.std.specs.List.{All, IsDistinct, fold}
use Rattle.std.specs.Map.{lookup, keys_of}
use Rattle.std.specs.Cmp.Lexicographic.{pointwise}
use Rattle.std.specs.declared.alloc.Global.{Global}
use Rattle.std.specs.declared.vec.Vec.{Vec}
use Rattle.ff_rec.specs.Lines.{IsPlain}
use Rattle.ff_ops.specs.Entries.{Entry, changed}

-- a key of a hash map with its value
abbrev pub Row : Type 0 → Type 0
Row V = Vec ℕ Global × V

-- the value at these bytes
abbrev pub at_key : {V : Type 0} → List (Row V) → List ℕ → Option V
at_key rows key = lookup (λ k. pointwise nat_eq key k.items) rows

-- the entries of a map's rows, where `bytes` are those of a key
abbrev pub read_by : {K V : Type 0} → (K → List ℕ) → List (K × V) → List (Entry V)
read_by {K} {V} bytes rows = map {B = Entry V} (λ row. (bytes row.0, row.1)) rows

-- entries with one more put to its place; of two with one key the later counts
abbrev pub put : {V : Type 0} → List (Entry V) → Entry V → List (Entry V)
put entries e = changed e.1 e.0 (λ v. e.1) entries

-- the entries of the rows, in byte order of the keys
abbrev pub by_key : {V : Type 0} → List (Row V) → List (Entry V)
by_key rows = fold put [] (read_by (λ k. k.items) rows)

-- no two keys have the same bytes
abbrev pub AreApart : {V : Type 0} → List (Row V) → Type 0
AreApart rows = IsDistinct (λ a b. pointwise nat_eq a.items b.items) (keys_of rows)

-- no key has a tab or a newline
abbrev pub ArePlain : {V : Type 0} → List (Row V) → Type 0
ArePlain rows = All (λ k. IsPlain k.items) (keys_of rows)

-- a key that wasn't there has this value, from whatever it was changed
abbrev pub IsNewAt : {V : Type 0} → List (Entry V) → List ℕ → V → List (Entry V) → Type 0
IsNewAt {V} old key value new = (none : V) (change : V → V) → change none ≡ value → new ≡ changed none key change old
