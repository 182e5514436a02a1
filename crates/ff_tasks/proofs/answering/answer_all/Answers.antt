-- A task was answered, or a message taken that carries none.
use Rattle.std.proofs.Common.{refl, sym, ap, subst, ◌∙◌, [], ◌∷◌, ◌++◌, length, map}
use Rattle.ff_rec.specs.declared.msg.Msg.TheVariants.{Item, Mark, Pick, Eos, Abort}
use Rattle.ff_rec.specs.Counts.{counted}
use Rattle.ff_rec.specs.Streams.{items}
use Rattle.ff_ring.specs.Ends.{got_of, put_of}
use Rattle.ff_tasks.specs.Jobs.{Begins}
use Rattle.ff_tasks.proofs.Kept.{HasKept-answered, HasKept-other, counted-more, first-kept, first-more, items-same}
use Rattle.ff_tasks.proofs.answering.answer_all.Goals as goal

pub loop-preserved-in-Ok : goal.loop-preserved-in-Ok
loop-preserved-in-Ok g c =
    let f = g.H.Handler.answers c.args.handler.now in
    let said = c.put.ensures.put ∙ ap (λ l. l ++ Item c.in-Ok.a ∷ []) c.take.ensures.put in record {
      same = c.answer.ensures.same ∙ c.loop.invariant.same;
      reads = c.take.ensures.reads ∙ c.loop.invariant.reads;
      writes = c.put.ensures.writes ∙ c.take.ensures.writes ∙ c.loop.invariant.writes;
      kept = HasKept-answered f (got_of c.loop.tasks) (got_of c.take.new.inn) (put_of c.loop.answers) (put_of c.put.new.out) c.in-Item.t c.in-Ok.a c.loop.invariant.kept
          c.in-Item.ensures.got said (c.in-Ok.ensures.answer ∙ ap (λ h. h c.in-Item.t) c.loop.invariant.same);
      count = counted-more (put_of c.loop.answers) (put_of c.put.new.out) c.in-Ok.a c.loop.answered c.saturating_add.result said c.loop.invariant.count c.saturating_add.ensures;
    }

pub returns-in-Err-clause-stopped : goal.returns-in-Err-clause-stopped
returns-in-Err-clause-stopped g c =
    let f = g.H.Handler.answers c.args.handler.now in
    subst (λ l. Begins (items l) (map f (items (got_of c.take.new.inn)))) (sym c.take.ensures.put)
    (first-more f (got_of c.loop.tasks) (got_of c.take.new.inn) (put_of c.loop.answers) (first-kept f (got_of c.loop.tasks) (put_of c.loop.answers) c.loop.invariant.kept.all)
    (record { more = Item c.in-Item.t ∷ []; is = c.in-Item.ensures.got }))

pub returns-in-Eos-clause-stopped : goal.returns-in-Eos-clause-stopped
returns-in-Eos-clause-stopped g c =
    let f = g.H.Handler.answers c.args.handler.now in
    let kept = HasKept-other f (got_of c.loop.tasks) (got_of c.take.new.inn) (put_of c.loop.answers) (put_of c.take.new.out) c.loop.invariant.kept
    (items-same (got_of c.loop.tasks) (got_of c.take.new.inn) Eos c.in-Eos.ensures.got refl) c.take.ensures.put in
    ((got_of c.loop.tasks, c.in-Eos.ensures.got), kept.all)

pub returns-in-Abort-clause-stopped : goal.returns-in-Abort-clause-stopped
returns-in-Abort-clause-stopped g c =
    let f = g.H.Handler.answers c.args.handler.now in
    let kept = HasKept-other f (got_of c.loop.tasks) (got_of c.take.new.inn) (put_of c.loop.answers) (put_of c.take.new.out) c.loop.invariant.kept
    (items-same (got_of c.loop.tasks) (got_of c.take.new.inn) Abort c.in-Abort.ensures.got refl) c.take.ensures.put in
    first-kept f (got_of c.take.new.inn) (put_of c.take.new.out) kept.all

pub loop-preserved-in-Mark : goal.loop-preserved-in-Mark
loop-preserved-in-Mark g c = record {
  same = c.loop.invariant.same;
  reads = c.take.ensures.reads ∙ c.loop.invariant.reads;
  writes = c.take.ensures.writes ∙ c.loop.invariant.writes;
  kept = HasKept-other (g.H.Handler.answers c.args.handler.now) (got_of c.loop.tasks) (got_of c.take.new.inn) (put_of c.loop.answers) (put_of c.take.new.out)
      c.loop.invariant.kept (items-same (got_of c.loop.tasks) (got_of c.take.new.inn) Mark c.in-Mark.ensures.got refl) c.take.ensures.put;
  count = c.loop.invariant.count ∙ ap (λ l. counted (length (items l))) (sym c.take.ensures.put);
}

pub loop-preserved : goal.loop-preserved
loop-preserved g c = record {
  same = c.loop.invariant.same;
  reads = c.take.ensures.reads ∙ c.loop.invariant.reads;
  writes = c.take.ensures.writes ∙ c.loop.invariant.writes;
  kept = HasKept-other (g.H.Handler.answers c.args.handler.now) (got_of c.loop.tasks) (got_of c.take.new.inn) (put_of c.loop.answers) (put_of c.take.new.out)
      c.loop.invariant.kept (items-same (got_of c.loop.tasks) (got_of c.take.new.inn) (Pick c.in-Pick.field-0) c.in-Pick.ensures.got refl) c.take.ensures.put;
  count = c.loop.invariant.count ∙ ap (λ l. counted (length (items l))) (sym c.take.ensures.put);
}
