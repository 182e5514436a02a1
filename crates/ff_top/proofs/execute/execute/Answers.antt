-- The words are a command, or they are at fault.
use Rattle.std.proofs.Common.{inr}
use Rattle.ff_top.proofs.execute.execute.Goals as goal

pub returns-in-Ok-clause-comes : goal.returns-in-Ok-clause-comes
returns-in-Ok-clause-comes g c = inr (record { job = c.in-Ok.job; is_command = c.in-Ok.ensures.ok; works = c.work.ensures.works })
