-- The stream was taken in and the threads were ended, or it came to a halt and they were given up.
use Rattle.std.proofs.Common.{inl, inr}
use Rattle.ff_stream.specs.Endings.{records_of}
use Rattle.ff_stream.specs.Streams.{streams}
use Rattle.ff_stream.specs.declared.fault.Halt.TheVariants.{NoMemory}
use Rattle.ff_stream.proofs.Endings.{Ran-broken, Ran-ended, Ran-given_up, Told-ended}
use Rattle.ff_stream.proofs.Goings.{IsOpen-left}
use Rattle.ff_engine.specs.Networks.{HasDoneTasks, HasFed, HasStopped, WorkedThrough}
use Rattle.ff_engine.specs.Seen.{caller_of}
use Rattle.ff_engine.proofs.LineEnds.{HasStopped-fed}
use Rattle.ff_engine.proofs.running.run_line.Goals as goal

pub finish-requires-after_bounds : goal.finish-requires-after_bounds
finish-requires-after_bounds g c κs within = (c.in-Ok.ensures.ok c.requires.0 c.requires.1 c.requires.2).stands_so.linked

pub give_up-requires-after_bounds : goal.give_up-requires-after_bounds
give_up-requires-after_bounds g c κs within =
    elim (c.in-Err.ensures.err c.requires.0 c.requires.1 c.requires.2).left [
      | inl stands ↦ stands.1.linked
      | inr broken ↦ broken.linked
    ]

pub returns-in-Ok-finish-clause-run : goal.returns-in-Ok-finish-clause-run
returns-in-Ok-finish-clause-run g c =
    let s = streams g.I.Source.left g.I.Source.ended g.I.Source.faults g.O.Sink.taken c.args.source.now c.take_stream.new.source c.args.sink.now c.take_stream.new.sink in
    λ j is fed.
    let taken = c.in-Ok.ensures.ok j is fed in
    Ran-ended (λ j l xs front. HasFed g.N.Node.does j (caller_of l.caller) l.crew xs front) j c.take_stream.new.work c.in-Ok.stop s taken _ c.in-Ok-finish.report
    (c.in-Ok-finish.ensures.ends j (records_of j s taken.got) taken.front taken.stands_so)

pub returns-in-Ok-finish-clause-work : goal.returns-in-Ok-finish-clause-work
returns-in-Ok-finish-clause-work g c =
    let s = streams g.I.Source.left g.I.Source.ended g.I.Source.faults g.O.Sink.taken c.args.source.now c.take_stream.new.source c.args.sink.now c.take_stream.new.sink in
    λ j is fed.
    let taken = c.in-Ok.ensures.ok j is fed in
    Told-ended (λ j l xs front. HasFed g.N.Node.does j (caller_of l.caller) l.crew xs front) j c.take_stream.new.work c.in-Ok.stop s taken _ c.in-Ok-finish.report
    (λ xs. WorkedThrough j xs (g.S.Refusals.worked c.args.spawner.now) (g.S.Refusals.worked c.finish.new.by))
    (c.in-Ok-finish.ensures.ends j (records_of j s taken.got) taken.front taken.stands_so)
    (c.in-Ok-finish.ensures.work j (records_of j s taken.got) taken.front taken.stands_so)

pub returns-in-Ok-finish-clause-tasks : goal.returns-in-Ok-finish-clause-tasks
returns-in-Ok-finish-clause-tasks g c =
    let s = streams g.I.Source.left g.I.Source.ended g.I.Source.faults g.O.Sink.taken c.args.source.now c.take_stream.new.source c.args.sink.now c.take_stream.new.sink in
    λ j is fed.
    let taken = c.in-Ok.ensures.ok j is fed in
    Told-ended (λ j l xs front. HasFed g.N.Node.does j (caller_of l.caller) l.crew xs front) j c.take_stream.new.work c.in-Ok.stop s taken _ c.in-Ok-finish.report
    (λ xs. HasDoneTasks g.N.Node.does j xs)
    (c.in-Ok-finish.ensures.ends j (records_of j s taken.got) taken.front taken.stands_so)
    (c.in-Ok-finish.ensures.tasks j (records_of j s taken.got) taken.front taken.stands_so)

pub returns-in-Err-finish-clause-run : goal.returns-in-Err-finish-clause-run
returns-in-Err-finish-clause-run g c =
    let s = streams g.I.Source.left g.I.Source.ended g.I.Source.faults g.O.Sink.taken c.args.source.now c.take_stream.new.source c.args.sink.now c.take_stream.new.sink in
    λ j is fed.
    let taken = c.in-Ok.ensures.ok j is fed in
    Ran-broken (λ j l xs front. HasFed g.N.Node.does j (caller_of l.caller) l.crew xs front) j c.take_stream.new.work c.in-Ok.stop s taken _ c.in-Ok.ensures.input_faults
    c.in-Err-finish.fault (c.in-Err-finish.ensures.ends j (records_of j s taken.got) taken.front taken.stands_so)

pub returns-in-Err-clause-run : goal.returns-in-Err-clause-run
returns-in-Err-clause-run g c =
    let b = g.N.Node.does in
    let s = streams g.I.Source.left g.I.Source.ended g.I.Source.faults g.O.Sink.taken c.args.source.now c.take_stream.new.source c.args.sink.now c.take_stream.new.sink in
    rw c.into.ensures
    (λ j is fed.
    let came = c.in-Err.ensures.err j is fed in
    Ran-given_up (λ j l xs front. HasFed b j (caller_of l.caller) l.crew xs front) (λ j l halt xs front. HasStopped b j (caller_of l.caller) l.crew halt xs front)
    j c.in-Err.halt c.take_stream.new.work s came
    (IsOpen-left (λ j l xs front. HasFed b j (caller_of l.caller) l.crew xs front) (λ j l halt xs front. HasStopped b j (caller_of l.caller) l.crew halt xs front)
    c.take_stream.new.work
    (λ j xs front at. c.give_up.ensures.opens j NoMemory xs front (HasStopped-fed b j (caller_of c.take_stream.new.work.caller) c.take_stream.new.work.crew xs front at))
    c.give_up.ensures.opens
    j c.in-Err.halt came.first came.front came.left))
