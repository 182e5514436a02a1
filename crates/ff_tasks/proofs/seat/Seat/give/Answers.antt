-- A task was given and put, or neither.
use Rattle.std.proofs.Common.{sym, ap, subst, ◌∙◌, [], ◌∷◌, ◌++◌}
use Rattle.ff_rec.specs.declared.msg.Msg.TheVariants.{Item}
use Rattle.ff_rec.specs.Streams.{IsOpen, items}
use Rattle.ff_ring.specs.Ends.{put_of}
use Rattle.ff_unit.specs.MessageLaws.{IsOpen-append}
use Rattle.ff_loop.specs.Masters.{Gives}
use Rattle.ff_tasks.specs.Seats.{SeatState}
use Rattle.ff_tasks.proofs.Serves.{ServesAt-none, ServesAt-gave, Works-refl, Works-rests}
use Rattle.ff_tasks.proofs.seat.Seat.give.Goals as goal

pub returns-then-not-has_spare-clause-serves : goal.returns-then-not-has_spare-clause-serves
returns-then-not-has_spare-clause-serves g c =
    ServesAt-none g.S.Scheduler.does c.args.w c.args.master.now c.args.self.now c.args.master.now _ (Works-refl g.S.Scheduler.does c.args.master.now c.requires.kept)
    (ap items (c.has_spare.ensures.put ∙ ap (λ (s : SeatState g.row.T.Denot g.row.A.Denot). s.put) c.self.view_is))
    (ap items (ap (λ (s : SeatState g.row.T.Denot g.row.A.Denot). s.got) c.self.view_is))

pub returns-in_default-clause-serves : goal.returns-in_default-clause-serves
returns-in_default-clause-serves g c =
    let none = subst (λ t. Gives g.S.Scheduler.does c.args.w c.args.master.now t c.give.new.self) c.in_default.is c.in_ok-t.ensures in
    ServesAt-none g.S.Scheduler.does c.args.w c.args.master.now c.args.self.now c.give.new.self _
    (Works-rests g.S.Scheduler.does c.args.master.now c.give.new.self none.1)
    (ap items (c.has_spare.ensures.put ∙ ap (λ (s : SeatState g.row.T.Denot g.row.A.Denot). s.put) c.self.view_is))
    (ap items (ap (λ (s : SeatState g.row.T.Denot g.row.A.Denot). s.got) c.self.view_is))

pub invariant_of-self-2 : goal.invariant_of-self-2
invariant_of-self-2 g c = λ untold.
    subst (λ l. IsOpen l) (sym (c.in-Done.ensures.puts.0 ∙ ap (λ l. l ++ Item c.in-Some.t ∷ []) c.has_spare.ensures.put))
    (IsOpen-append (put_of c.self.inside.tasks) (Item c.in-Some.t ∷ []) (c.self.invariant untold) (tt, tt))

pub returns-clause-serves : goal.returns-clause-serves
returns-clause-serves g c =
    let gave = subst (λ t. Gives g.S.Scheduler.does c.args.w c.args.master.now t c.give.new.self) c.in-Some.is c.in_ok-t.ensures in
    ServesAt-gave g.S.Scheduler.does c.args.w gave.0 c.in-Some.t c.args.master.now c.args.self.now c.give.new.self _ gave.1
    (c.in-Done.ensures.puts.0
    ∙ ap (λ l. l ++ Item c.in-Some.t ∷ []) (c.has_spare.ensures.put ∙ ap (λ (s : SeatState g.row.T.Denot g.row.A.Denot). s.put) c.self.view_is))
    (ap (λ (s : SeatState g.row.T.Denot g.row.A.Denot). s.got) c.self.view_is)
