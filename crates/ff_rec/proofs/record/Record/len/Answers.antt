-- What the invariant says of the fields.
use Rattle.std.proofs.Common.{subst}
use Rattle.ff_rec.specs.Lines.{IsRec}
use Rattle.ff_rec.proofs.Places.{IsRec-block}
use Rattle.ff_rec.proofs.record.Record.len.Goals as goal

pub returns-clause-within : goal.returns-clause-within
returns-clause-within c = subst IsRec c.self.view_is (IsRec-block c.self.inside.block.items c.self.inside.block.count c.self.invariant)
