-- How many different names a program has.
use Rattle.std.specs.Prelude.{ℕ, zero, suc, Bool, nat_lt, if◌then◌else◌, List, [], ◌∷◌, ◌++◌, length, slice_get, Option, None, Some}
use Rattle.ff_prog.specs.declared.statement.Statement.{Statement}
use Rattle.ff_prog.specs.declared.statement.Statement.TheVariants.{Task, Out}
use Rattle.ff_prog.specs.Rules.{is_in}
use Rattle.ff_prog.specs.Writers.{name_in, name_if}

-- the name that may not be there
abbrev pub second_name : Option (List ℕ) → List (List ℕ)
second_name None = []
second_name (Some n) = n ∷ []

-- the names of a statement, in the order of its words
abbrev pub names_of : Option Statement → List (List ℕ)
names_of (Some (Task first second op a b c)) = first ∷ (second_name second ++ (name_in a ++ (name_if b ++ name_if c)))
names_of (Some (Out names)) = names
names_of None = []

-- a name put behind others, unless it stands there
abbrev pub with_name : List (List ℕ) → List ℕ → List (List ℕ)
with_name ns m = if is_in ns m then ns else ns ++ m ∷ []

-- names put behind others, but for those that stand there
abbrev pub with_new : List (List ℕ) → List (List ℕ) → List (List ℕ)
with_new ns [] = ns
with_new ns (m ∷ ms) = with_new (with_name ns m) ms

-- the different names of the first `k` statements
abbrev pub names_until : List Statement → ℕ → List (List ℕ)
names_until ss zero = []
names_until ss (suc k) = with_new (names_until ss k) (names_of (slice_get ss k))

-- rule 2, at most 1,024 different names, is broken with statement `k`
abbrev pub is_crowded : List Statement → ℕ → Bool
is_crowded ss k = nat_lt 1024 (length (names_until ss (suc k)))
