-- One worker more.
use Rattle.std.proofs.Common.{◌≡◌, refl, sym, ap, ◌∙◌, subst}
use Rattle.std.proofs.lemmas.Iterator.Adapters.{YieldsList-from_vec}
use Rattle.std.proofs.lemmas.Iterator.Consumers.{YieldsList-end}
use Rattle.std.proofs.lemmas.List.{map-id}
use Rattle.ff_tasks.proofs.Makings.{AreMade, AreMade-more, IsManned-made}
use Rattle.ff_tasks.proofs.making.make_all.Goals as goal

pub loop-handler-preserved : goal.loop-handler-preserved
loop-handler-preserved g c =
    let made = c.in_ok-seat.ensures in
    AreMade-more c.loop-handler.seats.items c.push.new.self.items c.loop-handler.jobs.items c.push-in-loop-handler.new.self.items c.loop-handler.yielded c.in_ok-seat.seat
    c.in_ok-seat.job c.in-Some.handler c.loop-handler.invariant c.in_ok-push.ensures.items c.in_ok-push-2.ensures.items made.handler made.link made.open made.seat made.job

pub returns-clause-handlers : goal.returns-clause-handlers
returns-clause-handlers g c =
    let handlers = c.args.handlers in
    let begins = c.into_iter-handler-iterator.ensures.into_iter_gives in
    let end = YieldsList-end (YieldsList-from_vec {s = c.into_iter-handler-iterator.result} handlers.items begins.0 (begins.1 ∙ handlers.ok.0)) c.loop-handler.yielded c.loop-handler.handler-iterator c.loop-handler.yielded_by c.next.result c.next.new.self c.in-None.is c.next.ensures.steps in
    c.loop-handler.invariant.handlers_are ∙ sym (map-id c.loop-handler.yielded) ∙ end.0

pub returns-clause-manned : goal.returns-clause-manned
returns-clause-manned g c =
    let handlers = c.args.handlers in
    let begins = c.into_iter-handler-iterator.ensures.into_iter_gives in
    let end = YieldsList-end (YieldsList-from_vec {s = c.into_iter-handler-iterator.result} handlers.items begins.0 (begins.1 ∙ handlers.ok.0)) c.loop-handler.yielded c.loop-handler.handler-iterator c.loop-handler.yielded_by c.next.result c.next.new.self c.in-None.is c.next.ensures.steps in
    IsManned-made c.loop-handler.seats.items c.loop-handler.jobs.items handlers.items
    (subst (λ hs. AreMade c.loop-handler.seats.items c.loop-handler.jobs.items hs) (sym (map-id c.loop-handler.yielded) ∙ end.0) c.loop-handler.invariant) c.requires.few
