-- What the tasks gave so far.
use Rattle.std.specs.Prelude.{◌≡◌, ℕ, ◌<◌, List, Some, slice_get}
use Rattle.ff_prog.specs.declared.statement.Statement.{Statement}
use Rattle.ff_mdf.specs.declared.value.MdfAnswer.{MdfAnswer}
use Rattle.ff_mdf.specs.Stores.{answer_at}

-- the first `k` of these are what the first `k` statements give in program order
abbrev pub AreAnswers : List Statement → List MdfAnswer → ℕ → Type 0
AreAnswers ss xs k = (j : ℕ) → j < k → slice_get xs j ≡ Some (answer_at ss j)
