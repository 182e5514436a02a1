-- The stream came to its end and the text was written, or it broke off.
use denote.Param.Send.{sendable}
use Rattle.std.proofs.Crossing.{crosses}
use Rattle.std.proofs.Common.{ℕ, List, Ok, Err, [], ap, ◌∙◌, subst}
use Rattle.std.proofs.lemmas.Result.{err_from_is_err_and}
use Rattle.ff_rec.specs.Counts.{more}
use Rattle.ff_ring.specs.Ends.{got_of, put_of}
use Rattle.ff_stream.specs.Texts.{Writes, WritesSome}
use Rattle.ff_steps.specs.NetUnits.{net_does}
use Rattle.ff_engine.specs.Callers.{EndsWithEos}
use Rattle.ff_engine.specs.Seen.{caller_of}
use Rattle.ff_engine.proofs.LineEnds.{Ends-cut, Ends-reported, Ends-unreported, HasDoneTasks-all, IsOpen-put, WorkedThrough-all, counts-concluded}
use Rattle.ff_engine.proofs.UnitSent.{IsSend-unit}
use Rattle.ff_engine.proofs.line.Line.finish.Goals as goal

pub close-shown-requires : goal.close-shown-requires
close-shown-requires g c = IsOpen-put (caller_of c.args.self.caller).put c.args.self.open

pub returns-in_err-report-clause-ends : goal.returns-in_err-report-clause-ends
returns-in_err-report-clause-ends g c =
    let p = err_from_is_err_and c.from_residual.result c.from_residual.ensures.1 in
    let shown = c.close-shown in
    rw (p.1 ∙ ap (λ fault. Err fault) p.2)
    (λ j xs front at.
    Ends-unreported g.N.Node.does j (caller_of c.args.self.caller) (caller_of shown.new.caller) c.args.self.crew xs front at
    (put_of c.into_parts-first.result.0) c.join-units.result.items (got_of c.into_parts-first.result.1) _ _ c.join-units.ensures.joined
    (c.into_parts-first.ensures.put ∙ ap (λ s. s.put) c.hand_over.ensures.same)
    (c.into_parts-first.ensures.got ∙ ap (λ s. s.got) c.hand_over.ensures.same) _ _
    shown.result c.end-end.result c.any_over-over.result _ c.in_err-report.ensures c.any_over-over.ensures
    shown.ensures.put shown.ensures.goes.moves shown.ensures.ends shown.ensures.goes.breaks shown.ensures.goes.starves)

pub returns-in_err-report-clause-counts : goal.returns-in_err-report-clause-counts
returns-in_err-report-clause-counts g c =
    let p = err_from_is_err_and c.from_residual.result c.from_residual.ensures.1 in
    let shown = c.close-shown in
    rw (p.1 ∙ ap (λ fault. Err fault) p.2)
    (counts-concluded (net_does g.N.Node.does) shown.result c.end-end.result c.any_over-over.result c.join-units.result.items _ c.in_err-report.ensures _ _ shown.ensures.goes.counts)

pub returns-in_err-write-clause-ends : goal.returns-in_err-write-clause-ends
returns-in_err-write-clause-ends g c =
    let p = err_from_is_err_and c.from_residual-in_err-write.result c.from_residual-in_err-write.ensures.1 in
    let shown = c.close-shown in
    rw (p.1 ∙ ap (λ fault. Err fault) p.2)
    (λ j xs front at.
    Ends-cut g.N.Node.does j (caller_of c.args.self.caller) (caller_of shown.new.caller) c.args.self.crew xs front at
    (put_of c.into_parts-first.result.0) c.join-units.result.items (got_of c.into_parts-first.result.1) _ _ c.join-units.ensures.joined
    (c.into_parts-first.ensures.put ∙ ap (λ s. s.put) c.hand_over.ensures.same)
    (c.into_parts-first.ensures.got ∙ ap (λ s. s.got) c.hand_over.ensures.same) _ _
    shown.result c.end-end.result c.any_over-over.result _ c.in_ok-report.ensures c.any_over-over.ensures
    (λ eos. subst (λ s. EndsWithEos s.got) c.hand_over.ensures.same (c.end-end.ensures.eos eos))
    shown.ensures.put shown.ensures.goes.moves _
    (subst (λ (l : List ℕ). WritesSome l (g.O.Sink.taken shown.new.sink) (g.O.Sink.taken c.write.new.sink))
    (c.into_parts-first.ensures.text ∙ ap (λ s. s.text) c.hand_over.ensures.same) c.in_err-write.ensures.some))

pub returns-in_err-write-clause-counts : goal.returns-in_err-write-clause-counts
returns-in_err-write-clause-counts g c =
    let p = err_from_is_err_and c.from_residual-in_err-write.result c.from_residual-in_err-write.ensures.1 in
    let shown = c.close-shown in
    rw (p.1 ∙ ap (λ fault. Err fault) p.2)
    (c.in_err-write.ensures.counts
    ∙ ap more (counts-concluded (net_does g.N.Node.does) shown.result c.end-end.result c.any_over-over.result c.join-units.result.items _ c.in_ok-report.ensures _ _ shown.ensures.goes.counts))

pub returns-clause-ends : goal.returns-clause-ends
returns-clause-ends g c =
    let shown = c.close-shown in
    λ j xs front at.
    Ends-reported g.N.Node.does j (caller_of c.args.self.caller) (caller_of shown.new.caller) c.args.self.crew xs front at
    (put_of c.into_parts-first.result.0) c.join-units.result.items (got_of c.into_parts-first.result.1) _ _ c.join-units.ensures.joined
    (c.into_parts-first.ensures.put ∙ ap (λ s. s.put) c.hand_over.ensures.same)
    (c.into_parts-first.ensures.got ∙ ap (λ s. s.got) c.hand_over.ensures.same) _ _
    shown.result c.end-end.result c.any_over-over.result _ c.in_ok-report.ensures c.any_over-over.ensures
    (λ eos. subst (λ s. EndsWithEos s.got) c.hand_over.ensures.same (c.end-end.ensures.eos eos))
    shown.ensures.put shown.ensures.goes.moves _
    (subst (λ (l : List ℕ). Writes l [] (g.O.Sink.taken shown.new.sink) (g.O.Sink.taken c.write.new.sink))
    (c.into_parts-first.ensures.text ∙ ap (λ s. s.text) c.hand_over.ensures.same)
    (subst (λ (l : List ℕ). Writes c.into_parts-first.result.2 l (g.O.Sink.taken shown.new.sink) (g.O.Sink.taken c.write.new.sink)) c.in_ok-write.ensures.empty c.in_ok-write.ensures.all))

pub returns-clause-work : goal.returns-clause-work
returns-clause-work g c =
    let shown = c.close-shown in
    WorkedThrough-all g.N.Node.does (caller_of c.args.self.caller) (caller_of shown.new.caller) c.args.self.crew
    (put_of c.into_parts-first.result.0) c.join-units.result.items (got_of c.into_parts-first.result.1) _ _ c.join-units.ensures.joined
    (c.into_parts-first.ensures.put ∙ ap (λ s. s.put) c.hand_over.ensures.same)
    (c.into_parts-first.ensures.got ∙ ap (λ s. s.got) c.hand_over.ensures.same)
    shown.result c.end-end.result c.any_over-over.result (Ok c.in_ok-report.report) c.in_ok-report.ensures shown.ensures.put

pub returns-clause-tasks : goal.returns-clause-tasks
returns-clause-tasks g c =
    let shown = c.close-shown in
    HasDoneTasks-all g.N.Node.does (caller_of c.args.self.caller) (caller_of shown.new.caller) c.args.self.crew
    (put_of c.into_parts-first.result.0) c.join-units.result.items (got_of c.into_parts-first.result.1) _ _ c.join-units.ensures.joined
    (c.into_parts-first.ensures.put ∙ ap (λ s. s.put) c.hand_over.ensures.same)
    (c.into_parts-first.ensures.got ∙ ap (λ s. s.got) c.hand_over.ensures.same)
    shown.result c.end-end.result c.any_over-over.result (Ok c.in_ok-report.report) c.in_ok-report.ensures c.any_over-over.ensures shown.ensures.put

pub returns-clause-counts : goal.returns-clause-counts
returns-clause-counts g c =
    let shown = c.close-shown in
    c.in_ok-write.ensures.counts
    ∙ counts-concluded (net_does g.N.Node.does) shown.result c.end-end.result c.any_over-over.result c.join-units.result.items (Ok c.in_ok-report.report) c.in_ok-report.ensures _ _ shown.ensures.goes.counts

pub join-units-requires-send-U : goal.join-units-requires-send-U
join-units-requires-send-U g c κs within = let u = IsSend-unit _ c.type_bounds.send-N in search (sendable, crosses) depth 20
