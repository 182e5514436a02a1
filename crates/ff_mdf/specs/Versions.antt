-- The versions of names: one for each write.
use Rattle.std.specs.Prelude.{◌≡◌, ℕ, List, slice_get, Option, None, Some}
use Rattle.ff_prog.specs.Writers.{latest}
use Rattle.ff_prog.specs.declared.statement.Statement.{Statement}
use Rattle.ff_mdf.specs.Stores.{after, answer_at, given}
use Rattle.ff_mdf.specs.declared.value.Value.{Value}
use Rattle.ff_mdf.specs.declared.value.Value.TheVariants.{Bad}

-- the value of a version: what the statement gave the name
abbrev pub version : List Statement → List ℕ → Option ℕ → Value
version ss n None = Bad
version ss n (Some j) = given (slice_get ss j) (answer_at ss j) n

-- the value of a name before a statement is the version of its latest earlier writer
abbrev pub VersionsAreValues : Type 0
VersionsAreValues = (ss : List Statement) (k : ℕ) (n : List ℕ) → after ss k n ≡ version ss n (latest ss n k)
