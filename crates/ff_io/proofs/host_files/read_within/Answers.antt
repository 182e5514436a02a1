use Rattle.std.proofs.Common.{◌∙◌, arith}
use Rattle.std.proofs.lemmas.Grind.{common_steps}
use Rattle.ff_io.proofs.Limits.{IfSome-within}
use Rattle.ff_io.proofs.host_files.read_within.Goals as goal

pub returns-clause-content : goal.returns-clause-content
returns-clause-content g c =
    IfSome-within (g.R.Read.remaining c.args.reader) c.read_to_end.new.buf.items c.args.limit c.take.result.limit
    (c.take.ensures.limit ∙ c.saturating_add.ensures) (grind (arith, common_steps)) (grind (arith, common_steps)) (grind (arith, common_steps))
