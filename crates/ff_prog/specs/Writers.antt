-- Which names statements write, read and put out, and which writer of a name is the latest.
use Rattle.std.specs.Prelude.{ℕ, zero, suc, Bool, false, ◌||◌, if◌then◌else◌, List, [], ◌∷◌, ◌++◌, slice_get, Option, None, Some}
use Rattle.std.specs.Str.{bytes_eq}
use Rattle.ff_prog.specs.declared.statement.Operand.{Operand}
use Rattle.ff_prog.specs.declared.statement.Operand.TheVariants as operand
use Rattle.ff_prog.specs.declared.statement.Statement.{Statement}
use Rattle.ff_prog.specs.declared.statement.Statement.TheVariants.{Task, Out}

-- whether the first name that a statement writes is this one
abbrev pub is_first : Option Statement → List ℕ → Bool
is_first (Some (Task first second op a b c)) n = bytes_eq first n
is_first (Some (Out names)) n = false
is_first None n = false

-- whether a name that may not be there is this one
abbrev pub is_second : Option (List ℕ) → List ℕ → Bool
is_second None n = false
is_second (Some m) n = bytes_eq m n

-- whether a statement writes a name
abbrev pub writes : Option Statement → List ℕ → Bool
writes (Some (Task first second op a b c)) n = bytes_eq first n || is_second second n
writes (Some (Out names)) n = false
writes None n = false

-- the latest statement before `k` that writes a name, counted from 0
abbrev pub latest : List Statement → List ℕ → ℕ → Option ℕ
latest ss n zero = None
latest ss n (suc k) = if writes (slice_get ss k) n then Some k else latest ss n k

-- the name that an operand is
abbrev pub name_in : Operand → List (List ℕ)
name_in (operand.Name n) = n ∷ []
name_in (operand.Num x) = []

-- the name that an operand is that may not be there
abbrev pub name_if : Option Operand → List (List ℕ)
name_if None = []
name_if (Some o) = name_in o

-- the names that a statement reads
abbrev pub reads : Option Statement → List (List ℕ)
reads (Some (Task first second op a b c)) = name_in a ++ (name_if b ++ name_if c)
reads (Some (Out names)) = []
reads None = []

-- the names that a statement puts out
abbrev pub outs : Statement → List (List ℕ)
outs (Task first second op a b c) = []
outs (Out names) = names

-- the names that the first `out` statement puts out
abbrev pub out_names : List Statement → List (List ℕ)
out_names [] = []
out_names (Task first second op a b c ∷ ss) = out_names ss
out_names (Out names ∷ ss) = names
