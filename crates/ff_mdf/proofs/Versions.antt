-- The value of a name is the version of its latest earlier writer.
use Rattle.std.proofs.Common.{◌≡◌, ℕ, zero, suc, true, false, List, Some, refl}
use Rattle.std.specs.Prelude.{slice_get, if◌then◌else◌}
use Rattle.ff_prog.specs.Writers.{latest, writes}
use Rattle.ff_prog.specs.declared.statement.Statement.{Statement}
use Rattle.ff_mdf.specs.Stores.{after, answer_at, given}
use Rattle.ff_mdf.specs.Versions.{version}

-- by recursion along the statements
pub after-version : (ss : List Statement) (k : ℕ) (n : List ℕ) → after ss k n ≡ version ss n (latest ss n k)
after-version ss zero n = refl
after-version ss (suc k) n =
    elim (writes (slice_get ss k) n) as (λ w. (if w then given (slice_get ss k) (answer_at ss k) n else after ss k n) ≡ version ss n (if w then Some k else latest ss n k))
    [ true ↦ refl | false ↦ after-version ss k n ]
