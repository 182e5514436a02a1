-- The last field ends with the block, another before a tab.
use Rattle.std.proofs.Common.{◌≡◌, suc, List, ℕ, length, sym, subst, arith}
use Rattle.ff_rec.specs.Block.{IsPlace}
use Rattle.ff_rec.specs.Lines.{cut}
use Rattle.ff_rec.proofs.Places.{IsPlace-IsFieldEnd, IsPlace-last}
use Rattle.ff_rec.proofs.block.place.Goals as goal

pub returns-then-k-count : goal.returns-then-k-count
returns-then-k-count c =
    let items = c.args.block.now.items in
    let last : suc c.args.k ≡ length (cut 9 items) = omega (arith, c.if-k-count.true, c.requires.count) in
    subst (λ (bytes : List ℕ). IsPlace items c.args.k c.start_of-start.result (length bytes)) (sym c.as_slice.ensures)
    (IsPlace-last items c.args.k c.start_of-start.result c.start_of-start.ensures last)

pub returns : goal.returns
returns c = IsPlace-IsFieldEnd c.args.block.now.items c.args.k c.start_of-start.result c.field_end.result c.start_of-start.ensures c.field_end.ensures.end
