-- The record at the place that was reached is the first that is left.
use Rattle.ff_steps.proofs.Moving.{next_message-at}
use Rattle.ff_steps.proofs.feeder.Feeder.next.Goals as goal

pub returns-in_ok-copy-in-Some-clause-next : goal.returns-in_ok-copy-in-Some-clause-next
returns-in_ok-copy-in-Some-clause-next c =
    next_message-at c.args.self.now.input c.args.self.now.fed _ _ _ c.if-self.false c.in-Some.ensures c.in_ok-copy-in-Some.ensures
