-- There is one field more than there are tabs.
use Rattle.std.proofs.Common.{refl, sym, subst, arith}
use Rattle.ff_rec.specs.Block.{IsBlock}
use Rattle.ff_rec.specs.Lines.{tabs}
use Rattle.ff_rec.specs.Stored.{Stored}
use Rattle.ff_rec.proofs.Places.{IsBlock-line}
use Rattle.ff_rec.proofs.record.Record.of_line.Goals as goal

pub invariant_of-result : goal.invariant_of-result
invariant_of-result c =
    subst (λ (b : Stored). IsBlock b.items b.count) (sym c.in_ok-of_line.ensures.ok)
    (IsBlock-line c.args.line.now (tabs c.args.line.now) c.requires refl (omega (arith, c.in_ok-of_line.ensures.few)))
