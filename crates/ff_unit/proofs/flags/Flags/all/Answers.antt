use Rattle.std.proofs.Common.{true}
use Rattle.std.proofs.lemmas.List.{take-replicate}
use Rattle.ff_unit.proofs.flags.Flags.all.Goals as goal

pub returns : goal.returns
returns c = take-replicate c.args.n 65 true c.requires
