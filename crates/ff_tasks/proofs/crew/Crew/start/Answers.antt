-- All were started, or those that were are joined.
use Rattle.std.proofs.Common.{◌≡◌, false, sym, ap, subst, ◌∙◌}
use Rattle.std.specs.List.{All}
use Rattle.ff_tasks.specs.Crews.{IsManned, handlers_of}
use Rattle.ff_tasks.proofs.Starts.{All-front, all-started, RoseBy-started}
use Rattle.ff_tasks.proofs.crew.Crew.start.Goals as goal

pub returns-in-Ok-clause-handlers : goal.returns-in-Ok-clause-handlers
returns-in-Ok-clause-handlers g c =
    ap handlers_of (all-started c.start_all.new.jobs.items c.start_all.new.self.jobs c.in_ok-seats.field-0.jobs.items c.in-Ok.ensures.conserved c.in-Ok.ensures.all)
    ∙ c.in_ok-seats.ensures.handlers

pub returns-in-Ok-clause-manned : goal.returns-in-Ok-clause-manned
returns-in-Ok-clause-manned g c =
    subst (λ js. IsManned c.in_ok-seats.field-0.seats.items js)
    (sym (all-started c.start_all.new.jobs.items c.start_all.new.self.jobs c.in_ok-seats.field-0.jobs.items c.in-Ok.ensures.conserved c.in-Ok.ensures.all))
    c.in_ok-seats.ensures.manned

pub returns-in-Ok-clause-starts : goal.returns-in-Ok-clause-starts
returns-in-Ok-clause-starts g c = RoseBy-started c.start_all.new.self.jobs c.args.handlers.items _ _
    (ap handlers_of (all-started c.start_all.new.jobs.items c.start_all.new.self.jobs c.in_ok-seats.field-0.jobs.items c.in-Ok.ensures.conserved c.in-Ok.ensures.all)
    ∙ c.in_ok-seats.ensures.handlers)
    c.in-Ok.ensures.starts

pub break_up-requires-clause-begin : goal.break_up-requires-clause-begin
break_up-requires-clause-begin g c κs within = All-front (λ job. job.ended ≡ false) c.start_all.new.jobs.items c.start_all.new.self.jobs
    (subst (λ js. All (λ job. job.ended ≡ false) js) (sym c.in-Err.ensures.conserved) c.in_ok-seats.ensures.manned.begin)
