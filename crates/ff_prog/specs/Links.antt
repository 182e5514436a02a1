-- Where each operand gets its value from: the latest earlier writer of its name.
use Rattle.std.specs.Prelude.{◌≡◌, ℕ, ◌<◌, not, List, map, length, slice_get, Option, None, Some, option_map}
use Rattle.ff_prog.specs.declared.link.Link.{Link}
use Rattle.ff_prog.specs.declared.link.Links.{Links}
use Rattle.ff_prog.specs.declared.statement.Operand.{Operand}
use Rattle.ff_prog.specs.declared.statement.Operand.TheVariants as operand
use Rattle.ff_prog.specs.declared.statement.Statement.{Statement}
use Rattle.ff_prog.specs.declared.statement.Statement.TheVariants.{Task, Out}
use Rattle.ff_prog.specs.Writers.{is_first, latest, out_names}

-- the link of each name, where it has one
abbrev pub Known : Type 0
Known = List ℕ → Option Link

-- the link to a statement that writes a name: where both its names are this one, the first counts
abbrev pub link_to : List Statement → List ℕ → ℕ → Link
link_to ss n j = record { task = j; second = not (is_first (slice_get ss j) n) }

-- the link of a name before statement `k`: to the latest statement before it that writes the name
abbrev pub link : List Statement → ℕ → Known
link ss k n = option_map (link_to ss n) (latest ss n k)

-- the link of an operand
abbrev pub operand_link : Known → Operand → Option Link
operand_link known (operand.Name n) = known n
operand_link known (operand.Num x) = None

-- the link of an operand that may not be there
abbrev pub link_if : Known → Option Operand → Option Link
link_if known None = None
link_if known (Some o) = operand_link known o

-- no links
abbrev pub no_links : Links
no_links = record { a = None; b = None; c = None }

-- the links of a statement's operands
abbrev pub links_by : Known → Option Statement → Links
links_by known (Some (Task first second op a b c)) = record { a = operand_link known a; b = link_if known b; c = link_if known c }
links_by known (Some (Out names)) = no_links
links_by known None = no_links

-- the links of statement `k`, by the statements before it
abbrev pub links_at : List Statement → ℕ → Links
links_at ss k = links_by (link ss k) (slice_get ss k)

-- the first `k` of these are the links of the first `k` statements
abbrev pub AreLinks : List Statement → List Links → ℕ → Type 0
AreLinks ss ls k = (j : ℕ) → j < k → slice_get ls j ≡ Some (links_at ss j)

-- the links of the names that are put out, after all statements
abbrev pub out_links : List Statement → List (Option Link)
out_links ss = map (link ss (length ss)) (out_names ss)
