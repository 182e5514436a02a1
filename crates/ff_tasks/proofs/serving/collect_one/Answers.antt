-- An answer came, or what came carries none.
use Rattle.std.proofs.Common.{ap, ◌∙◌, [], ◌∷◌, ◌++◌, append-nil}
use Rattle.ff_rec.specs.declared.msg.Msg.TheVariants.{Mark, Pick}
use Rattle.ff_rec.specs.Streams.{items}
use Rattle.ff_unit.specs.MessageLaws.{items-append}
use Rattle.ff_tasks.specs.Seats.{SeatState}
use Rattle.ff_tasks.proofs.Serves.{ServesAt-none, ServesAt-got, Works-refl}
use Rattle.ff_tasks.proofs.serving.collect_one.Goals as goal

pub returns-in_ok-got-in-Some-Item-clause-serves : goal.returns-in_ok-got-in-Some-Item-clause-serves
returns-in_ok-got-in-Some-Item-clause-serves g c =
    let got = c.in_ok-got-in-Some-Item.ensures in
    ServesAt-got g.S.Scheduler.does c.args.w got.0 c.in-Some-Item.a c.args.master.now c.args.seat.now c.got.new.self c.take.new.self got.1
    (ap (λ (s : SeatState g.row.T.Denot g.row.A.Denot). s.put) c.in-Some-Item.ensures)
    (ap (λ (s : SeatState g.row.T.Denot g.row.A.Denot). s.got) c.in-Some-Item.ensures ∙ ap (λ m. c.args.seat.now.got ++ m ∷ []) c.in-Some-Item.field-0-is)

pub returns-in-Some-Mark-clause-serves : goal.returns-in-Some-Mark-clause-serves
returns-in-Some-Mark-clause-serves g c =
    ServesAt-none g.S.Scheduler.does c.args.w c.args.master.now c.args.seat.now c.args.master.now c.take.new.self
    (Works-refl g.S.Scheduler.does c.args.master.now c.requires.kept)
    (ap (λ (s : SeatState g.row.T.Denot g.row.A.Denot). items s.put) c.in-Some-Mark.ensures)
    (ap (λ (s : SeatState g.row.T.Denot g.row.A.Denot). items s.got) c.in-Some-Mark.ensures ∙ ap (λ m. items (c.args.seat.now.got ++ m ∷ [])) c.in-Some-Mark.field-0-is
    ∙ items-append c.args.seat.now.got (Mark ∷ []) ∙ append-nil (items c.args.seat.now.got))

pub returns-in-Some-Pick-clause-serves : goal.returns-in-Some-Pick-clause-serves
returns-in-Some-Pick-clause-serves g c =
    ServesAt-none g.S.Scheduler.does c.args.w c.args.master.now c.args.seat.now c.args.master.now c.take.new.self
    (Works-refl g.S.Scheduler.does c.args.master.now c.requires.kept)
    (ap (λ (s : SeatState g.row.T.Denot g.row.A.Denot). items s.put) c.in-Some-Pick.ensures)
    (ap (λ (s : SeatState g.row.T.Denot g.row.A.Denot). items s.got) c.in-Some-Pick.ensures ∙ ap (λ m. items (c.args.seat.now.got ++ m ∷ [])) c.in-Some-Pick.field-0-is
    ∙ items-append c.args.seat.now.got (Pick _ ∷ []) ∙ append-nil (items c.args.seat.now.got))
