-- Behind the line stand zeros, which are no tabs.
use Rattle.std.proofs.Common.{List, ℕ, ◌++◌, length, replicate, take, drop, ap, ◌∙◌, arith}
use Rattle.ff_rec.specs.Lines.{tabs}
use Rattle.ff_rec.proofs.TabCounts.{tabs-padded}
use Rattle.ff_rec.proofs.bytes.short.Short.of_line.Goals as goal

pub returns-clause-tabs : goal.returns-clause-tabs
returns-clause-tabs c =
    let line = c.args.line.now in
    c.count_few-tab_count.ensures.count
    ∙ ap (λ (q : List ℕ). tabs (take c.min.result (q ++ drop (length line) (replicate 31 0)))) c.copy_from_slice.ensures.after
    ∙ tabs-padded line c.min.result 31 (length line) (omega (arith, c.min.ensures, c.next_multiple_of.ensures.lower_bound, c.requires))
