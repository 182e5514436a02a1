-- Which operands read from a statement. The operands of all statements are numbered, three for each of them.
use Rattle.std.specs.Prelude.{◌≡◌, ℕ, zero, suc, ◌*◌, ◌/◌, ◌%◌, ◌<◌, Bool, false, ◌==◌, if◌then◌else◌, List, length, slice_index_or, slice_set, Option, None, Some}
use Rattle.ff_prog.specs.Links.{links_at}
use Rattle.ff_prog.specs.declared.link.Link.{Link}
use Rattle.ff_prog.specs.declared.link.Links.{Links}
use Rattle.ff_prog.specs.declared.statement.Statement.{Statement}
use Rattle.ff_mdf_tasks.specs.declared.readers.Readers.{Readers}

-- the link at place 0, 1 or 2
abbrev pub link_in : Links → ℕ → Option Link
link_in ls p = if p == 0 then ls.a else (if p == 1 then ls.b else ls.c)

-- the statement that a link leads to
abbrev pub target : Option Link → Option ℕ
target None = None
target (Some l) = Some l.task

-- the statement that operand `t` gets its value from
abbrev pub source : List Statement → ℕ → Option ℕ
source ss t = target (link_in (links_at ss (t / 3)) (t % 3))

-- whether that is statement `j`
abbrev pub is_source : Option ℕ → ℕ → Bool
is_source None j = false
is_source (Some i) j = i == j

-- the last of the first `m` operands that get their values from statement `j`
abbrev pub last_reader : List Statement → ℕ → ℕ → Option ℕ
last_reader ss j zero = None
last_reader ss j (suc t) = if is_source (source ss t) j then Some t else last_reader ss j t

-- among the first `m` operands, the last reader of each statement, and for each operand the reader of the same statement before it
pub record ReadersUntil (ss : List Statement) (m : ℕ) (latest earlier : List (Option ℕ)) : Type 0 where
  pub statements : length latest ≡ length ss
  pub operands : length earlier ≡ m
  pub last : (j : ℕ) → j < length ss → slice_index_or latest j None ≡ last_reader ss j m
  pub before : (t j : ℕ) → t < m → j < length ss → source ss t ≡ Some j → slice_index_or earlier t None ≡ last_reader ss j t

-- among all operands
abbrev pub AreReaders : List Statement → Readers → Type 0
AreReaders ss r = ReadersUntil ss (3 * length ss) r.latest.items r.earlier.items

-- the last reader of a statement that may not be there
abbrev pub reader_of : List (Option ℕ) → Option ℕ → Option ℕ
reader_of latest None = None
reader_of latest (Some j) = slice_index_or latest j None

-- the last readers with operand `t` as that of a statement
abbrev pub with_reader : List (Option ℕ) → Option ℕ → ℕ → List (Option ℕ)
with_reader latest None t = latest
with_reader latest (Some j) t = slice_set latest j (Some t)
