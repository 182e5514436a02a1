-- Two elements change places in either order.
use Rattle.std.proofs.Common.{[], ◌∙◌, arith}
use Rattle.ff_rec.specs.Lines.{cut}
use Rattle.ff_rec.proofs.Swaps.{swap-comm}
use Rattle.ff_rec.proofs.block.edits.exchange.Goals as goal

pub returns-then-j-i-clause-fields : goal.returns-then-j-i-clause-fields
returns-then-j-i-clause-fields c =
    c.exchange_ordered-then-j-i.ensures.fields
    ∙ swap-comm (cut 9 c.args.block.now.items) c.args.j c.args.i [] c.requires.second c.requires.first (λ same. absurd (omega arith))
