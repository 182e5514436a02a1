-- The fields of a record by their numbers, and lists of records by what a field holds.
use Rattle.std.specs.Prelude.{ℕ, zero, suc, Bool, false, nat_eq, is_none, List, [], ◌∷◌, Option, None, Some, slice_get, option_and_then, ℤ}
use Rattle.std.specs.List.{filter}
use Rattle.std.specs.Ordering.{nat_cmp}
use Rattle.std.specs.Cmp.Lexicographic.{slice_cmp, pointwise}
use Rattle.std.specs.declared.cmp.Ordering.{Ordering}
use Rattle.std.specs.declared.cmp.Ordering.TheVariants.{Less, Equal, Greater}
use Rattle.ff_rec.specs.Lines.{Rec}
use Rattle.ff_rec.specs.Number.{number}

-- field `k`, counted from 1
abbrev pub field_at : ℕ → Rec → Option (List ℕ)
field_at zero r = None
field_at (suc k) r = slice_get r k

-- the number in field `k`, where the field is there and is a number
abbrev pub number_in : ℕ → Rec → Option ℤ
number_in k r = option_and_then number (field_at k r)

-- whether two fields hold the same bytes
abbrev pub same_bytes : List ℕ → List ℕ → Bool
same_bytes a b = pointwise nat_eq a b

-- the test, asked of what may not be there
abbrev pub passes : (List ℕ → Bool) → Option (List ℕ) → Bool
passes test None = false
passes test (Some content) = test content

-- the records whose field `f` is there and passes the test
abbrev pub keep : ℕ → (List ℕ → Bool) → List Rec → List Rec
keep f test xs = filter (λ x. passes test (field_at f x)) xs

-- the records whose field `f` holds just `content`
abbrev pub having : ℕ → List ℕ → List Rec → List Rec
having f content xs = keep f (same_bytes content) xs

-- the records without field `f`
abbrev pub lacking : ℕ → List Rec → List Rec
lacking f xs = filter (λ x. is_none (field_at f x)) xs

-- a content put into a rising list of contents, by how it stands to the first of them
abbrev pub put_by : Ordering → List ℕ → List ℕ → List (List ℕ) → List (List ℕ) → List (List ℕ)
put_by Less content first others placed = content ∷ first ∷ others
put_by Equal content first others placed = first ∷ others
put_by Greater content first others placed = first ∷ placed

-- a content put into a rising list of contents, unless it is there
abbrev pub put_content : List ℕ → List (List ℕ) → List (List ℕ)
put_content content [] = content ∷ []
put_content content (first ∷ others) = put_by (slice_cmp nat_cmp content first) content first others (put_content content others)

-- a content put into a rising list of contents, where it is there
abbrev pub put_if_there : Option (List ℕ) → List (List ℕ) → List (List ℕ)
put_if_there None contents = contents
put_if_there (Some content) contents = put_content content contents

-- what field `f` holds in these records, in byte order, each content once
abbrev pub contents : ℕ → List Rec → List (List ℕ)
contents f [] = []
contents f (x ∷ xs) = put_if_there (field_at f x) (contents f xs)
