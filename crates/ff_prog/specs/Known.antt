-- What the maps that go through a program know of names, by their entries.
use Rattle.std.specs.Prelude.{◌≡◌, ℕ, Bool, not, if◌then◌else◌, List, length, Option, Some}
use Rattle.std.specs.Borrow.{Bor}
use Rattle.std.specs.List.{list_any}
use Rattle.std.specs.Map.{lookup}
use Rattle.std.specs.Str.{bytes_eq}
use Rattle.ff_prog.specs.declared.link.Link.{Link}
use Rattle.ff_prog.specs.declared.statement.Statement.{Statement}
use Rattle.ff_prog.specs.Links.{Known, link}
use Rattle.ff_prog.specs.Names.{with_new}
use Rattle.ff_prog.specs.Rules.{is_in}
use Rattle.ff_prog.specs.Writers.{is_first, writes}

-- a name of a map, with its link
abbrev pub Row : Type 0
Row = Bor (List ℕ) × Link

-- the link of a name in a map
abbrev pub at_name : List Row → Known
at_name rows n = lookup (λ k. bytes_eq n k.now) rows

-- the link of each name, with that of one name changed
abbrev pub with_link : Known → List ℕ → Link → Known
with_link known m l n = if bytes_eq m n then Some l else known n

-- the link of each name behind one statement more
abbrev pub known_behind : Known → Option Statement → ℕ → Known
known_behind known s k n = if writes s n then Some (record { task = k; second = not (is_first s n) }) else known n

-- the links in a map, with that of one name changed
abbrev pub NotesLink : List Row → List Row → List ℕ → Link → Type 0
NotesLink old new m l = (n : List ℕ) → at_name new n ≡ with_link (at_name old) m l n

-- the links in a map, behind one statement more
abbrev pub NotesStatement : List Row → List Row → Option Statement → ℕ → Type 0
NotesStatement old new s k = (n : List ℕ) → at_name new n ≡ known_behind (at_name old) s k n

-- a map has the link of each name before statement `k`
abbrev pub KnowsLinks : List Row → List Statement → ℕ → Type 0
KnowsLinks rows ss k = (n : List ℕ) → at_name rows n ≡ link ss k n

-- whether a name is in a set
abbrev pub has_name : List (Bor (List ℕ)) → List ℕ → Bool
has_name keys n = list_any (λ k. bytes_eq n k.now) keys

-- a set has these names and no others, each once
pub record HasNames (keys : List (Bor (List ℕ))) (ns : List (List ℕ)) : Type 0 where
  pub same : (n : List ℕ) → has_name keys n ≡ is_in ns n
  pub many : length keys ≡ length ns

-- the names of a set, with these put in
abbrev pub NotesNames : List (Bor (List ℕ)) → List (Bor (List ℕ)) → List (List ℕ) → Type 0
NotesNames old new ms = (ns : List (List ℕ)) → HasNames old ns → HasNames new (with_new ns ms)
