-- A pipe or comb is the pipe or comb of its parts.
use Rattle.std.proofs.Common.{◌++◌, codes, sym, ap, ◌∙◌}
use Rattle.ff_net.specs.Tree.{tree_of, trees_of, tree_of-Pipe, tree_of-Comb}
use Rattle.ff_text.specs.NetPrinting.{printed_net, printed_parts}
use Rattle.ff_text.proofs.print.+printing.Goals as goal

pub print_net-returns-in_ok-print_parts-in-Pipe : goal.print_net-returns-in_ok-print_parts-in-Pipe
print_net-returns-in_ok-print_parts-in-Pipe t c =
    let old = c.args.into.now.items in
    c.in_ok-print_parts-in-Pipe.ensures
    ∙ ap (λ ns. old ++ (codes "pipe(" ++ printed_parts (trees_of ns))) c.deref.ensures.value
    ∙ sym (ap (λ net. old ++ printed_net net) (ap tree_of c.in-Pipe.is ∙ tree_of-Pipe c.in-Pipe.parts))

pub print_net-returns-in_ok-print_parts-in-Comb : goal.print_net-returns-in_ok-print_parts-in-Comb
print_net-returns-in_ok-print_parts-in-Comb t c =
    let old = c.args.into.now.items in
    c.in_ok-print_parts-in-Comb.ensures
    ∙ ap (λ ns. old ++ (codes "comb(" ++ printed_parts (trees_of ns))) c.deref-in-Comb.ensures.value
    ∙ sym (ap (λ net. old ++ printed_net net) (ap tree_of c.in-Comb.is ∙ tree_of-Comb c.in-Comb.parts))
