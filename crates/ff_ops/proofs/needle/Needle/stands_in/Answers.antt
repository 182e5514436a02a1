-- The search answers a place where there is one.
use Rattle.std.proofs.Common.{◌∙◌, ap}
use Rattle.ff_ops.specs.FieldOps.{occurs}
use Rattle.ff_ops.proofs.Finding.{is_some-occurs}
use Rattle.ff_ops.proofs.needle.Needle.stands_in.Goals as goal

pub returns : goal.returns
returns c =
    c.is_some.ensures ∙ is_some-occurs c.args.bytes.now c.self.inside.finder c.find.result c.find.ensures
    ∙ ap (λ text. occurs text c.args.bytes.now) c.self.view_is
