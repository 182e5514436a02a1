-- Statements done in any order, each once it is ready.
use Rattle.std.specs.Prelude.{◌≡◌, ℕ, true, ◌==◌, if◌then◌else◌, List, [], ◌∷◌, slice_get, Option, None, Some, option_map, is_some}
use Rattle.std.specs.List.{AllByRecursion}
use Rattle.ff_prog.specs.Writers.{latest, reads}
use Rattle.ff_prog.specs.declared.statement.Statement.{Statement}
use Rattle.ff_mdf.specs.Stores.{Env, after, answer, answer_at, given}
use Rattle.ff_mdf.specs.Values.{or_bad}
use Rattle.ff_mdf.specs.declared.value.Value.{Value}
use Rattle.ff_mdf.specs.declared.value.Value.TheVariants.{Bad}
use Rattle.ff_mdf.specs.declared.value.MdfAnswer.{MdfAnswer}

-- an answer that came back, and the statement that it is of
pub record Back : Type 0 where
  pub id : ℕ
  pub answer : MdfAnswer

-- the answer of a statement among those that came back
abbrev pub back_of : List Back → ℕ → Option MdfAnswer
back_of [] k = None
back_of (b ∷ log) k = if b.id == k then Some b.answer else back_of log k

-- what came back for a name from a statement
abbrev pub came : List Statement → List Back → List ℕ → Option ℕ → Value
came ss log n None = Bad
came ss log n (Some j) = or_bad (option_map (λ x. given (slice_get ss j) x n) (back_of log j))

-- what names stand for before statement `k`, by what came back from their latest earlier writers
abbrev pub by_backs : List Statement → List Back → ℕ → Env
by_backs ss log k n = came ss log n (latest ss n k)

-- the latest earlier writer of a name, where there is one, is back
abbrev pub IsBack : List Statement → List Back → ℕ → List ℕ → Type 0
IsBack ss log k n = (j : ℕ) → latest ss n k ≡ Some j → is_some (back_of log j) ≡ true

-- a statement may be done: each name that it reads has the version of its latest earlier writer
abbrev pub IsReady : List Statement → List Back → ℕ → Type 0
IsReady ss log k = AllByRecursion (IsBack ss log k) (reads (slice_get ss k))

-- what came back, the latest first: each statement was ready, and did its work on the values that had come back
abbrev pub IsSound : List Statement → List Back → Type 0
IsSound ss [] = Unit {0}
IsSound ss (b ∷ log) = IsReady ss log b.id × (b.answer ≡ answer (slice_get ss b.id) (by_backs ss log b.id)) × IsSound ss log

-- In whatever order statements were done: each gave what it gives in program order, and each name whose latest writer is back
-- has its value of the store.
pub record OrderLaw (ss : List Statement) (log : List Back) : Type 0 where
  pub answers : (k : ℕ) (x : MdfAnswer) → back_of log k ≡ Some x → x ≡ answer_at ss k
  pub values : (k : ℕ) (n : List ℕ) → IsBack ss log k n → by_backs ss log k n ≡ after ss k n

-- the law of every list of statements and all that may come back
abbrev pub AnyOrderGivesStore : Type 0
AnyOrderGivesStore = (ss : List Statement) (log : List Back) → IsSound ss log → OrderLaw ss log
