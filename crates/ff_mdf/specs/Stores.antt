-- What names stand for after the tasks of a program, one after another.
use Rattle.std.specs.Prelude.{ℕ, zero, suc, if◌then◌else◌, List, map, length, slice_get, Option, None, Some}
use Rattle.ff_prog.specs.Writers.{is_first, writes, out_names}
use Rattle.ff_prog.specs.declared.statement.Operand.{Operand}
use Rattle.ff_prog.specs.declared.statement.Operand.TheVariants as operand
use Rattle.ff_prog.specs.declared.statement.Statement.{Statement}
use Rattle.ff_prog.specs.declared.statement.Statement.TheVariants.{Task, Out}
use Rattle.ff_mdf.specs.Values.{applied, or_bad}
use Rattle.ff_mdf.specs.declared.value.Value.{Value}
use Rattle.ff_mdf.specs.declared.value.Value.TheVariants.{Num, Bad}
use Rattle.ff_mdf.specs.declared.value.MdfAnswer.{MdfAnswer}

-- what each name stands for
abbrev pub Env : Type 0
Env = List ℕ → Value

-- a name and a value
abbrev pub Entry : Type 0
Entry = List ℕ × Value

abbrev pub entry : List ℕ → Value → Entry
entry n v = (n, v)

-- a name with what it stands for
abbrev pub valued : Env → List ℕ → Entry
valued env n = entry n (env n)

-- the value of an operand
abbrev pub value_of : Env → Operand → Value
value_of env (operand.Name n) = env n
value_of env (operand.Num x) = Num x

-- the value of an operand that may not be there
abbrev pub value_if : Env → Option Operand → Option Value
value_if env None = None
value_if env (Some o) = Some (value_of env o)

-- what a statement gives; `out` and no statement give nothing that counts
abbrev pub answer : Option Statement → Env → MdfAnswer
answer (Some (Task first second op a b c)) env = applied op (value_of env a) (value_if env b) (value_if env c)
answer (Some (Out names)) env = record { first = Bad; second = None }
answer None env = record { first = Bad; second = None }

-- what a statement that writes a name gives it
abbrev pub given : Option Statement → MdfAnswer → List ℕ → Value
given s x n = if is_first s n then x.first else or_bad x.second

-- what names stand for after the first `k` statements, done one after another
abbrev pub after : List Statement → ℕ → Env
after ss zero n = Bad
after ss (suc k) n = if writes (slice_get ss k) n then given (slice_get ss k) (answer (slice_get ss k) (after ss k)) n else after ss k n

-- what a statement gives in program order, counted from 0
abbrev pub answer_at : List Statement → ℕ → MdfAnswer
answer_at ss k = answer (slice_get ss k) (after ss k)

-- the names that are put out, each with its value after all statements
abbrev pub store : List Statement → List Entry
store ss = map (valued (after ss (length ss))) (out_names ss)
