-- Each turn takes a message out.
use Rattle.std.proofs.Common.{length}
use Rattle.ff_test_ports.proofs.scripts.script_of.Given as goal

abbrev pub decreases-loop-m : goal.decreases-loop-m
decreases-loop-m l = length l.queue.inside
