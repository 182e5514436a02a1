-- What `contents` is: just what occurs in a field, in byte order, each content once.
use Rattle.std.specs.Prelude.{◌↔◌, ℕ, List, map, Some}
use Rattle.std.specs.List.{Contains}
use Rattle.std.specs.List.Sorted.{IsStrictlySortedBy}
use Rattle.std.specs.Ordering.{nat_cmp}
use Rattle.std.specs.Cmp.Lexicographic.{slice_cmp}
use Rattle.ff_rec.specs.Fields.{field_at, contents}
use Rattle.ff_rec.specs.Lines.{Rec}

-- each of them comes before all that stand behind it, in byte order
abbrev pub IsRising : List (List ℕ) → Type 0
IsRising cs = IsStrictlySortedBy (slice_cmp nat_cmp) cs

-- field `f` of some record holds `content`
abbrev pub Occurs : ℕ → List Rec → List ℕ → Type 0
Occurs f xs content = Contains (map (field_at f) xs) (Some content)

-- the contents of a field rise, and are just those that occur
abbrev pub ContentsLaw : Type 0
ContentsLaw = (f : ℕ) (xs : List Rec) → IsRising (contents f xs) × ((content : List ℕ) → Contains (contents f xs) content ↔ Occurs f xs content)
