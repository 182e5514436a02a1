-- Records that go round: what a worker sends for them and what of it meets a test comes back as the next level.
use Rattle.std.specs.Prelude.{ℕ, zero, suc, ◌<◌, Bool, false, not, List, [], ◌++◌, length, Option, None, Some, ℤ}
use Rattle.std.specs.List.{filter}
use Rattle.ff_rec.specs.Fields.{number_in}
use Rattle.ff_rec.specs.Lines.{Rec}
use Rattle.ff_rec.specs.Cmp.{compares}
use Rattle.ff_net.specs.declared.net.Test.{Test}

-- whether what may be a number stands to the test's value as the test says
abbrev pub met_by : Test → Option ℤ → Bool
met_by p None = false
met_by p (Some n) = compares p.cmp n p.value

-- whether a record meets a test: the field is there, is a number, and the comparison holds
abbrev pub meets : Test → Rec → Bool
meets p r = met_by p (number_in p.field r)

-- in these definitions `send` is what the worker sends for a list of records
-- what of it goes back to the worker
abbrev pub again : (List Rec → List Rec) → Test → List Rec → List Rec
again send p xs = filter (meets p) (send xs)

-- what of it is a result
abbrev pub leaves_with : (List Rec → List Rec) → Test → List Rec → List Rec
leaves_with send p xs = filter (λ r. not (meets p r)) (send xs)

-- level `k`: level 0 is what comes in, and each further one is what goes back of the one before
abbrev pub level : (List Rec → List Rec) → Test → ℕ → List Rec → List Rec
level send p zero xs = xs
level send p (suc k) xs = level send p k (again send p xs)

-- the records of the first `n` levels
abbrev pub levels : (List Rec → List Rec) → Test → ℕ → List Rec → List Rec
levels send p zero xs = []
levels send p (suc n) xs = xs ++ levels send p n (again send p xs)

-- what `give` makes of each of the first `n` levels, one after another
abbrev pub over_levels : (List Rec → List Rec) → (List Rec → List Rec) → Test → ℕ → List Rec → List Rec
over_levels give send p zero xs = []
over_levels give send p (suc n) xs = give xs ++ over_levels give send p n (again send p xs)

-- the first m + 1 levels hold more than `m` records together. Where they don't, one of them is empty
abbrev pub IsOver : (List Rec → List Rec) → Test → ℕ → List Rec → Type 0
IsOver send p m xs = m < length (levels send p (suc m) xs)

-- the results of the first m + 1 levels: of all levels, where these don't hold more than `m` records
abbrev pub results : (List Rec → List Rec) → Test → ℕ → List Rec → List Rec
results send p m xs = over_levels (leaves_with send p) send p (suc m) xs
