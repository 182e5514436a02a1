-- The jobs that ended are those that were started, over the same rings.
use Rattle.std.proofs.Common.{◌≡◌, false, ◌++◌, map, sym, ap, ◌∙◌, subst}
use Rattle.std.proofs.lemmas.List.Elements.{recursion_from_All}
use Rattle.std.specs.List.{AllZip}
use Rattle.ff_tasks.specs.Crews.{IsSettled}
use Rattle.ff_tasks.proofs.Ends.{AreSound-ended, RoseBy-came, links-finished, links-outlive, handlers-answer}
use Rattle.ff_tasks.proofs.crew.Crew.finish.Goals as goal

pub settle_all-requires : goal.settle_all-requires
settle_all-requires g c =
    let f = c.finish_all.ensures.finishes in
    let all : c.finish_all.new.jobs.items ≡ f.finished = f.behind ∙ ap (λ l. l ++ f.finished) c.requires.none in
    links-outlive c.args.self.seats.items c.close_all.new.seats.items c.close_all.ensures ∙ c.requires.manned.links
    ∙ sym (links-finished g.H.Handler.answers c.args.self.running.jobs f.finished f.each) ∙ ap (map (λ job. job.link)) (sym all)

pub returns-clause-sound : goal.returns-clause-sound
returns-clause-sound g c = λ fun answer.
    let f = c.finish_all.ensures.finishes in
    let all : c.finish_all.new.jobs.items ≡ f.finished = f.behind ∙ ap (λ l. l ++ f.finished) c.requires.none in
    AreSound-ended g.H.Handler.answers fun c.args.self.seats.items c.close_all.new.seats.items c.args.self.running.jobs f.finished c.close_all.ensures
    (subst (λ js. AllZip IsSettled c.close_all.new.seats.items js) all c.settle_all.ensures) f.each
    (recursion_from_All (λ job. job.ended ≡ false) c.args.self.running.jobs c.requires.manned.begin)
    (handlers-answer g.H.Handler.answers fun c.args.self.running.jobs answer)

pub returns-clause-work : goal.returns-clause-work
returns-clause-work g c =
    let f = c.finish_all.ensures.finishes in
    let all : c.finish_all.new.jobs.items ≡ f.finished = f.behind ∙ ap (λ l. l ++ f.finished) c.requires.none in
    RoseBy-came c.args.self.seats.items c.close_all.new.seats.items f.finished _ _ c.close_all.ensures
    (subst (λ js. AllZip IsSettled c.close_all.new.seats.items js) all c.settle_all.ensures) f.work
