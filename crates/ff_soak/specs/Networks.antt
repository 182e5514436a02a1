-- The network of a soak.
use Rattle.std.specs.Prelude.{ℕ, List, [], ◌∷◌, map, ℤ, pos}
use Rattle.ff_rec.specs.Lines.{Rec}
use Rattle.ff_net.specs.Meaning.{mean}
use Rattle.ff_net.specs.Tree.{Tree, Leaf, Pipe, Farm, A2a, none, more}
use Rattle.ff_net.specs.declared.net.Route.TheVariants.{By}
use Rattle.ff_net.specs.declared.net.Sched.TheVariants.{Rr}
use Rattle.ff_ops.specs.Operation.{OpState, operation, op_node}
use Rattle.ff_ops.specs.declared.arg.Arg.{Arg}
use Rattle.ff_ops.specs.declared.arg.Arg.TheVariants.{Num}
use Rattle.ff_ops.specs.declared.row.Row.TheVariants.{Id, Mul, TotalBy}
use Rattle.ff_soak.specs.Records.{soak_records}

-- numbers as the arguments of an operation
abbrev pub numbered : List ℤ → List Arg
numbered ns = map (λ n. Num n) ns

-- three times the second field
abbrev pub times_three : OpState
times_three = operation Mul (numbered (pos 2 ∷ pos 3 ∷ []))

-- each record as it is
abbrev pub same_again : OpState
same_again = operation Id (numbered [])

-- the total of the second field for each content of the first
abbrev pub totals : OpState
totals = operation TotalBy (numbered (pos 1 ∷ pos 2 ∷ []))

-- `pipe(farm w rr (mul 2 3), a2a w (id) by 1 w (totalby 1 2))`
abbrev pub soak_net : ℕ → Tree OpState
soak_net w = Pipe (more (Farm w Rr (Leaf times_three)) (more (A2a w (Leaf same_again) (By 1) w (Leaf totals)) none))

-- what that network means for the first `n` records; `m` is how many tasks a wrap may have
abbrev pub soak_answer : ℕ → ℕ → ℕ → List Rec
soak_answer m w n = mean op_node m (soak_net w) (soak_records n)
