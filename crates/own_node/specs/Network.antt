-- The network of the program.
use Rattle.std.specs.Prelude.{[], ◌∷◌, pos}
use Rattle.ff_net.specs.Tree.{Tree, Leaf, Pipe, Comb, Farm, none, more}
use Rattle.ff_net.specs.declared.net.Sched.TheVariants.{Rr}
use Rattle.ff_ops.specs.Operation.{operation}
use Rattle.ff_ops.specs.declared.arg.Arg.TheVariants.{Num}
use Rattle.ff_ops.specs.declared.row.Row.TheVariants.{Drop}
use Rattle.own_node.specs.declared.own.Own.{Own}
use Rattle.own_node.specs.declared.own.Own.TheVariants.{Limit, Count, Stock}

-- `comb(drop 1, narrow 3)`
abbrev pub own_worker : Tree Own
own_worker = Comb (more (Leaf (Stock (operation Drop (Num (pos 1) ∷ [])))) (more (Leaf (Limit (record { most = 3 }))) none))

-- `farm 4 rr (..)`
abbrev pub own_farm : Tree Own
own_farm = Farm 4 Rr own_worker

-- `pipe(.., widest)`
abbrev pub own_net : Tree Own
own_net = Pipe (more own_farm (more (Leaf (Count 0)) none))
