-- What a map knows of names, with one statement more, and whether operands have links by it.
use Rattle.std.proofs.Common.{◌≡◌, ◌<◌, ℕ, zero, suc, ◌+◌, Bool, true, false, List, [], ◌∷◌, ◌++◌, Option, None, Some, length, get_or, refl, sym, ap, ◌∙◌, arith, below_more}
use Rattle.std.specs.Prelude.{if◌then◌else◌, ◌||◌, slice_get, option_map, is_none, position}
use Rattle.std.specs.List.{list_any}
use Rattle.std.proofs.Math.Bool.{or-false}
use Rattle.std.proofs.lemmas.List.Folds.{list_any-append}
use Rattle.std.proofs.lemmas.Option.{slice_get-get_or}
use mathlib.Core.Path.{fun_ext}
use Rattle.ff_prog.specs.declared.link.Links.{Links}
use Rattle.ff_prog.specs.declared.statement.Operand.{Operand}
use Rattle.ff_prog.specs.declared.statement.Operand.TheVariants as operand
use Rattle.ff_prog.specs.declared.statement.Statement.{Statement}
use Rattle.ff_prog.specs.declared.statement.Statement.TheVariants.{Task, Out}
use Rattle.ff_prog.specs.Known.{Row, at_name, known_behind, KnowsLinks, NotesStatement}
use Rattle.ff_prog.specs.Links.{AreLinks, Known, link, link_to, links_by, links_at, link_if, operand_link}
use Rattle.ff_prog.specs.Rules.{reads_unwritten, puts_unwritten}
use Rattle.ff_prog.specs.Unlinked.{has_unlinked, is_unlinked, is_unlinked_if}
use Rattle.ff_prog.specs.Writers.{latest, name_if, name_in, outs, reads, writes}

-- where the map knows the links, it is the function that gives them
pub known-link : (rows : List Row) (ss : List Statement) (k : ℕ) → KnowsLinks rows ss k → at_name rows ≡ link ss k
known-link rows ss k h = fun_ext h

-- a link to the latest writer, by whether this statement writes the name
link_cases : (ss : List Statement) (n : List ℕ) (k : ℕ) (w : Bool) → option_map (link_to ss n) (if w then Some k else latest ss n k) ≡ (if w then Some (link_to ss n k) else link ss k n)
link_cases ss n k true = refl
link_cases ss n k false = refl

-- the links behind one statement more
pub link-suc : (ss : List Statement) (k : ℕ) (n : List ℕ) → link ss (suc k) n ≡ known_behind (link ss k) (slice_get ss k) k n
link-suc ss k n = link_cases ss n k (writes (slice_get ss k) n)

-- the map behind one statement more
pub KnowsLinks-next : (old new : List Row) (ss : List Statement) (k : ℕ) (s : Option Statement) → KnowsLinks old ss k → s ≡ slice_get ss k → NotesStatement old new s k → KnowsLinks new ss (k + 1)
KnowsLinks-next old new ss k s knows at notes n =
    let next : suc k ≡ k + 1 = omega arith in
    notes n
    ∙ ap (λ t. known_behind (at_name old) t k n) at
    ∙ ap (λ known. known_behind known (slice_get ss k) k n) (known-link old ss k knows)
    ∙ sym (link-suc ss k n)
    ∙ ap (λ j. link ss j n) next

-- an operand without a link is a name that the map doesn't know
is_unlinked-any : (known : Known) (o : Operand) → is_unlinked o (operand_link known o) ≡ list_any (λ n. is_none (known n)) (name_in o)
is_unlinked-any known (operand.Name n) = sym (or-false (is_none (known n)))
is_unlinked-any known (operand.Num x) = refl

is_unlinked_if-any : (known : Known) (o : Option Operand) → is_unlinked_if o (link_if known o) ≡ list_any (λ n. is_none (known n)) (name_if o)
is_unlinked_if-any known None = refl
is_unlinked_if-any known (Some o) = is_unlinked-any known o

has_unlinked-any : (known : Known) (s : Option Statement) → has_unlinked s (links_by known s) ≡ list_any (λ n. is_none (known n)) (reads s)
has_unlinked-any known (Some (Task first second op a b c)) =
    ap (λ t. t || (is_unlinked_if b (link_if known b) || is_unlinked_if c (link_if known c))) (is_unlinked-any known a)
    ∙ ap (λ t. list_any (λ n. is_none (known n)) (name_in a) || (t || is_unlinked_if c (link_if known c))) (is_unlinked_if-any known b)
    ∙ ap (λ t. list_any (λ n. is_none (known n)) (name_in a) || (list_any (λ n. is_none (known n)) (name_if b) || t)) (is_unlinked_if-any known c)
    ∙ sym
    (list_any-append (λ n. is_none (known n)) (name_in a) (name_if b ++ name_if c)
    ∙ ap (λ t. list_any (λ n. is_none (known n)) (name_in a) || t) (list_any-append (λ n. is_none (known n)) (name_if b) (name_if c)))
has_unlinked-any known (Some (Out names)) = refl
has_unlinked-any known None = refl

-- a name has no link exactly where no earlier statement writes it
is_none-link : (ss : List Statement) (n : List ℕ) (o : Option ℕ) → is_none (option_map (link_to ss n) o) ≡ is_none o
is_none-link ss n None = refl
is_none-link ss n (Some j) = refl

none_any-link : (ss : List Statement) (k : ℕ) (ns : List (List ℕ)) → list_any (λ n. is_none (link ss k n)) ns ≡ list_any (λ n. is_none (latest ss n k)) ns
none_any-link ss k [] = refl
none_any-link ss k (n ∷ ns) = ap (λ t. t || list_any (λ m. is_none (link ss k m)) ns) (is_none-link ss n (latest ss n k)) ∙ ap (λ t. is_none (latest ss n k) || t) (none_any-link ss k ns)

-- a statement whose operands lack a link reads a name that no earlier task writes
has_unlinked-reads_unwritten : (rows : List Row) (ss : List Statement) (k : ℕ) (s : Option Statement) → KnowsLinks rows ss k → s ≡ slice_get ss k → has_unlinked s (links_by (at_name rows) s) ≡ reads_unwritten ss k
has_unlinked-reads_unwritten rows ss k s knows at =
    has_unlinked-any (at_name rows) s
    ∙ ap (λ known. list_any (λ n. is_none (known n)) (reads s)) (known-link rows ss k knows)
    ∙ none_any-link ss k (reads s)
    ∙ ap (λ t. list_any (λ n. is_none (latest ss n k)) (reads t)) at

-- the answer of the test, where the links are those of the map
pub unlinked-reads_unwritten : (rows : List Row) (ss : List Statement) (k : ℕ) (s : Option Statement) (ls : Links) (r : Bool) → KnowsLinks rows ss k → s ≡ slice_get ss k → ls ≡ links_by (at_name rows) s → r ≡ has_unlinked s ls → reads_unwritten ss k ≡ r
unlinked-reads_unwritten rows ss k s ls r knows at links is = sym (is ∙ ap (has_unlinked s) links ∙ has_unlinked-reads_unwritten rows ss k s knows at)

-- the links of a statement are those that the map gives
pub links_by-links_at : (rows : List Row) (ss : List Statement) (k : ℕ) (s : Option Statement) → KnowsLinks rows ss k → s ≡ slice_get ss k → links_by (at_name rows) s ≡ links_at ss k
links_by-links_at rows ss k s knows at = ap (λ known. links_by known s) (known-link rows ss k knows) ∙ ap (links_by (link ss k)) at

-- the first statement that puts out a name which the map lacks is the first that puts out one that no task writes
pub puts_unwritten-known : (rows : List Row) (ss : List Statement) → KnowsLinks rows ss (length ss) → (s : Statement) → list_any (λ n. is_none (at_name rows n)) (outs s) ≡ puts_unwritten ss s
puts_unwritten-known rows ss knows s = ap (λ known. list_any (λ n. is_none (known n)) (outs s)) (known-link rows ss (length ss) knows) ∙ none_any-link ss (length ss) (outs s)

pub position-puts_unwritten : (rows : List Row) (ss : List Statement) → KnowsLinks rows ss (length ss) → position (λ s. list_any (λ n. is_none (at_name rows n)) (outs s)) ss ≡ position (puts_unwritten ss) ss
position-puts_unwritten rows ss knows = ap (λ p. position p ss) (fun_ext (puts_unwritten-known rows ss knows))

-- a list up to its last element, and that one
slice_get-left : {X : Type 0} (xs ys : List X) (j : ℕ) → j < length xs → slice_get (xs ++ ys) j ≡ slice_get xs j
slice_get-left [] ys j below = absurd (omega arith)
slice_get-left (x ∷ xs) ys zero below = refl
slice_get-left (x ∷ xs) ys (suc j) below = slice_get-left xs ys j (omega arith)

slice_get-end : {X : Type 0} (xs : List X) (y : X) → slice_get (xs ++ y ∷ []) (length xs) ≡ Some y
slice_get-end [] y = refl
slice_get-end (x ∷ xs) y = slice_get-end xs y

-- the links so far, with those of one statement more
pub AreLinks-push : (ss : List Statement) (ls new : List Links) (k : ℕ) (l : Links) → length ls ≡ k → AreLinks ss ls k → new ≡ ls ++ l ∷ [] → l ≡ links_at ss k → AreLinks ss new (k + 1)
AreLinks-push ss ls new k l many links is at =
    below_more (λ j. slice_get new j ≡ Some (links_at ss j)) k
    (λ j below. ap (λ xs. slice_get xs j) is ∙ slice_get-left ls (l ∷ []) j (omega arith) ∙ links j below)
    (ap (λ xs. slice_get xs k) is ∙ ap (slice_get (ls ++ l ∷ [])) (sym many) ∙ slice_get-end ls l ∙ ap Some at)

-- a statement by its index
pub slice_get-index : (ss : List Statement) (k : ℕ) (s : Statement) → k < length ss → s ≡ get_or ss k s → Some s ≡ slice_get ss k
slice_get-index ss k s below at = ap Some at ∙ sym (slice_get-get_or ss k s below)
