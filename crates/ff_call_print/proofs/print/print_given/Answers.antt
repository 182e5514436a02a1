-- The network that is given was printed.
use Rattle.std.proofs.Common.{inr}
use Rattle.ff_net.specs.Tree.{tree_of}
use Rattle.ff_call_print.proofs.Printings.{Printed-prints, Counts-prints}
use Rattle.ff_call_print.proofs.print.print_given.Goals as goal

pub returns-in-Ok-clause-handled : goal.returns-in-Ok-clause-handled
returns-in-Ok-clause-handled g c = inr (record {
  net = tree_of c.in-Ok.checked.net;
  spelled = c.in-Ok.ensures.ok;
  done = Printed-prints c.args.form (tree_of c.in-Ok.checked.net) _ _ _ _ _ c.print.result c.in-Ok.ensures.keeps c.print.ensures;
})

pub returns-in-Ok-clause-counts : goal.returns-in-Ok-clause-counts
returns-in-Ok-clause-counts g c =
    Counts-prints c.args.form (tree_of c.in-Ok.checked.net) _ _ _ _ _ c.print.result c.in-Ok.ensures.counts c.print.ensures
