-- Plain bytes are one field.
use Rattle.std.proofs.Common.{sym, subst, ap, ◌∙◌}
use Rattle.ff_rec.specs.Lines.{cut}
use Rattle.ff_rec.specs.Block.{IsBlock}
use Rattle.ff_rec.specs.Stored.{Stored}
use Rattle.ff_rec.proofs.Joins.{cut-IsPlain}
use Rattle.ff_rec.proofs.Places.{IsBlock-field}
use Rattle.ff_rec.proofs.record.Record.of_plain.Goals as goal

pub invariant_of-result : goal.invariant_of-result
invariant_of-result c = subst (λ (b : Stored). IsBlock b.items b.count) (sym c.in_ok-of.ensures) (IsBlock-field c.args.bytes.now c.requires)

pub returns : goal.returns
returns c = ap (λ (b : Stored). cut 9 b.items) c.in_ok-of.ensures ∙ cut-IsPlain c.args.bytes.now c.requires
