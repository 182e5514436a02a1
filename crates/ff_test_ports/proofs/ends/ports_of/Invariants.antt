-- Nothing was taken at the ins so far, of which there is one for each script, and nothing was put at the outs.
use Rattle.std.proofs.Common.{◌≡◌, [], length}
use Rattle.std.specs.List.{AllByRecursion}
use Rattle.ff_port.specs.Owned.{AllEmpty}
use Rattle.ff_port.specs.Queues.{put_of}
use Rattle.ff_test_ports.proofs.ends.ports_of.Given as goal

abbrev pub invariant-loop-script : goal.invariant-loop-script
invariant-loop-script l = AllEmpty (λ q. q.got) l.ins.items × (length l.ins.items ≡ l.script-index)

abbrev pub invariant-loop : goal.invariant-loop
invariant-loop l = AllByRecursion (λ q. put_of q ≡ []) l.empty.items × (length l.empty.items ≡ l.counter)
