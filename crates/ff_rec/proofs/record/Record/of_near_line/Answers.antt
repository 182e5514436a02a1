-- So few bytes hold few tabs.
use Rattle.std.proofs.Common.{take, refl, sym, subst, arith, length-take}
use Rattle.ff_rec.specs.Block.{IsBlock}
use Rattle.ff_rec.specs.Lines.{tabs}
use Rattle.ff_rec.specs.Stored.{Stored}
use Rattle.ff_rec.proofs.Places.{IsBlock-line}
use Rattle.ff_rec.proofs.TabCounts.{tabs-le-length}
use Rattle.ff_rec.proofs.record.Record.of_near_line.Goals as goal

pub invariant_of-result : goal.invariant_of-result
invariant_of-result c =
    let line = take c.args.len c.args.text.now in
    subst (λ (q : Stored). IsBlock q.items q.count) (sym c.of_near_line.ensures)
    (IsBlock-line line (tabs line) c.requires.clean refl (omega (arith, tabs-le-length line, length-take c.args.len c.args.text.now, c.requires.near)))
