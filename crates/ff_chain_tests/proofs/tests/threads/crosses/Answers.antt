-- The writing end goes to the other thread and comes back. What goes is shown part by part, since a search through all
-- of it at once runs out of steps.
use denote.Builtin.{u64}
use denote.Param.Send.{IsSend, sendable}
use Rattle.std.proofs.Crossing.{crosses}
use Rattle.ff_chain.proofs.Sent.{IsSend-chain_out}
use Rattle.ff_chain_tests.specs.contracts.tests.threads.Side as Side
use Rattle.ff_chain_tests.specs.contracts.tests.threads.Stream as Stream
use Rattle.ff_chain_tests.proofs.tests.threads.crosses.Goals as goal

IsSend-word : IsSend u64
IsSend-word = search sendable

IsSend-stream : IsSend Stream.the_row
IsSend-stream = search (sendable, crosses) depth 20

IsSend-side : IsSend Side.the_row
IsSend-side = search (sendable, crosses) depth 40 fits 20000

pub join-out-requires-send-F : goal.join-out-requires-send-F
join-out-requires-send-F g c κs within =
    let o = IsSend-chain_out _ IsSend-word in
    let s = IsSend-stream in
    let d = IsSend-side in
    search (sendable, crosses) depth 20

pub join-out-requires-send-A : goal.join-out-requires-send-A
join-out-requires-send-A g c κs within = let o = IsSend-chain_out _ IsSend-word in search (sendable, crosses) depth 20
