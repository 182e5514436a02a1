-- The rules of programs, and where one is broken first; rule 2 is that on names. Statements are counted from 0 here.
use Rattle.std.specs.Prelude.{ℕ, zero, suc, ◌+◌, Bool, true, false, not, ◌==◌, ◌||◌, ◌&&◌, nat_lt, nat_le, if◌then◌else◌, List, [], ◌∷◌, length, slice_get, Option, None, Some, is_none}
use Rattle.std.specs.List.{list_any}
use Rattle.std.specs.Str.{bytes_eq}
use Rattle.ff_prog.specs.declared.statement.Statement.{Statement}
use Rattle.ff_prog.specs.declared.statement.Statement.TheVariants.{Task, Out}
use Rattle.ff_prog.specs.Writers.{latest, reads, outs, is_second}

-- the least number from `k` on that passes a test, among `n` of them
abbrev pub first_from : (ℕ → Bool) → ℕ → ℕ → Option ℕ
first_from p k zero = None
first_from p k (suc n) = if p k then Some k else first_from p (suc k) n

-- the first statement that breaks a rule, which may hang on those before it
abbrev pub first_at : (List Statement → ℕ → Bool) → List Statement → Option ℕ
first_at breaks ss = first_from (breaks ss) 0 (length ss)

-- whether a statement is a task
abbrev pub is_task : Option Statement → Bool
is_task (Some (Task first second op a b c)) = true
is_task (Some (Out names)) = false
is_task None = false

-- how many of the first `k` statements are tasks
abbrev pub tasks_until : List Statement → ℕ → ℕ
tasks_until ss zero = 0
tasks_until ss (suc k) = if is_task (slice_get ss k) then tasks_until ss k + 1 else tasks_until ss k

-- rule 1, at most 4,096 tasks, is broken by each task behind the 4,096th
abbrev pub is_past_most : List Statement → ℕ → Bool
is_past_most ss k = is_task (slice_get ss k) && nat_le 4096 (tasks_until ss k)

-- rule 3, each name that a task reads is written by an earlier task, is broken by this one
abbrev pub reads_unwritten : List Statement → ℕ → Bool
reads_unwritten ss k = list_any (λ n. is_none (latest ss n k)) (reads (slice_get ss k))

-- rule 4, the two names of a task differ, is broken by this one
abbrev pub has_twins : Statement → Bool
has_twins (Task first second op a b c) = is_second second first
has_twins (Out names) = false

-- whether a name stands in a list
abbrev pub is_in : List (List ℕ) → List ℕ → Bool
is_in ns n = list_any (λ m. bytes_eq n m) ns

-- whether a name stands twice
abbrev pub has_repeat : List (List ℕ) → Bool
has_repeat [] = false
has_repeat (n ∷ ns) = is_in ns n || has_repeat ns

-- whether a statement is `out`
abbrev pub is_out : Statement → Bool
is_out (Task first second op a b c) = false
is_out (Out names) = true

-- whether these are too many names to put out, or not all different
abbrev pub are_bad_outs : List (List ℕ) → Bool
are_bad_outs names = nat_lt 64 (length names) || has_repeat names

-- rule 5, an `out` statement is the last, and has at most 64 names, all different, is broken by this one
abbrev pub is_bad_out : List Statement → ℕ → Option Statement → Bool
is_bad_out ss k (Some (Task first second op a b c)) = false
is_bad_out ss k (Some (Out names)) = not (suc k == length ss) || are_bad_outs names
is_bad_out ss k None = false

-- whether statement `k` is an `out` that breaks it
abbrev pub breaks_out : List Statement → ℕ → Bool
breaks_out ss k = is_bad_out ss k (slice_get ss k)

-- rule 6, each `out` name is written by a task, is broken by this one
abbrev pub puts_unwritten : List Statement → Statement → Bool
puts_unwritten ss s = list_any (λ n. is_none (latest ss n (length ss))) (outs s)
