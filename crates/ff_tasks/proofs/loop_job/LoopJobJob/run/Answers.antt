-- It had ended already, or it has now.
use Rattle.std.proofs.Common.{◌≡◌, true, false, refl, sym, ap, ap₂, subst, ◌∙◌}
use Rattle.ff_ring.specs.Ends.{got_of, put_of}
use Rattle.ff_ring.specs.Names.{RingName}
use Rattle.ff_tasks.specs.Jobs.{JobState, Link, HasEnded}
use Rattle.ff_tasks.proofs.loop_job.LoopJobJob.run.Goals as goal

pub returns-then-self : goal.returns-then-self
returns-then-self g c =
    let had : c.args.self.now.ended ≡ true = ap (λ (j : JobState g.row.T.Denot g.row.A.Denot g.row.H.Denot). j.ended) (sym c.self.view_is) ∙ c.if-self.true in
    record { same = refl; link = refl; ends = λ begin. let no : ⊥ = cc in absurd no; rests = λ ended. refl }

pub invariant_of-self : goal.invariant_of-self
invariant_of-self g c = (c.answer_to_end.ensures.count, λ ended. let no : ⊥ = cc in absurd no)

pub returns : goal.returns
returns g c =
    let link : RingName → RingName → Link = λ tasks answers. record { tasks = tasks; answers = answers } in
    let hadnt : c.args.self.now.ended ≡ false = ap (λ (j : JobState g.row.T.Denot g.row.A.Denot g.row.H.Denot). j.ended) (sym c.self.view_is) ∙ c.if-self.false in
    record {
      same = c.answer_to_end.ensures.same ∙ ap (λ (j : JobState g.row.T.Denot g.row.A.Denot g.row.H.Denot). g.H.Handler.answers j.handler) c.self.view_is;
      link = ap₂ link c.answer_to_end.ensures.reads c.answer_to_end.ensures.writes
          ∙ ap (λ (j : JobState g.row.T.Denot g.row.A.Denot g.row.H.Denot). j.link) c.self.view_is;
      ends = λ begin. subst
          (λ (j : JobState g.row.T.Denot g.row.A.Denot g.row.H.Denot). HasEnded (g.H.Handler.answers j.handler) (got_of c.answer_to_end.new.tasks)
          (put_of c.answer_to_end.new.answers))
          c.self.view_is c.answer_to_end.ensures.ended;
      rests = λ ended. let no : ⊥ = cc in absurd no;
    }
