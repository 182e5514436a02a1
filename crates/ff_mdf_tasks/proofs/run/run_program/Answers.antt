-- The scheduler that comes back is idle, and its answers are those of its tasks.
use Rattle.std.proofs.Common.{◌≡◌, ℕ, List, length, refl, sym, ap, subst, ◌∙◌}
use Rattle.ff_loop.specs.Events.{AreAnswered, backs}
use Rattle.ff_loop.specs.Moves.{events_on}
use Rattle.ff_mdf.specs.Stores.{store}
use Rattle.ff_prog.specs.Rules.{tasks_until}
use Rattle.ff_prog.specs.declared.statement.Statement.{Statement}
use Rattle.ff_spawn.specs.Counts.{RoseBy}
use Rattle.ff_mdf_tasks.specs.Tasks.{MdfEvent, answer_of}
use Rattle.ff_mdf_tasks.proofs.StoreLaws.{length-backs, store_so_far-store}
use Rattle.ff_mdf_tasks.proofs.run.run_program.Goals as goal

pub returns-clause-store : goal.returns-clause-store
returns-clause-store g c =
    let opened = c.in_ok-tasks.ensures in
    let ran = c.in_ok-done.ensures.ran in
    let done = c.in_ok-done.done in
    let none : AreAnswered answer_of c.in_ok-tasks.tasks.events = subst (λ (log : List MdfEvent). AreAnswered answer_of log) (sym opened.events) tt in
    let answered : AreAnswered answer_of done.events = c.in_ok-done.ensures.answers answer_of (λ k d below. refl) none in
    c.in_ok-store.ensures ∙ store_so_far-store done ran.right ran.idle answered ∙ ap (λ (ss : List Statement). store ss) (ran.kind ∙ opened.program)

pub returns-clause-work : goal.returns-clause-work
returns-clause-work g c =
    let opened = c.in_ok-tasks.ensures in
    let ran = c.in_ok-done.ensures.ran in
    let done = c.in_ok-done.done in
    let events = ap (λ (log : List MdfEvent). length (backs (events_on log ran.log))) (sym opened.events) ∙ ap (λ (log : List MdfEvent). length (backs log)) (sym ran.events) in
    let tasks = events ∙ length-backs done ran.right ran.idle ∙ ap (λ (ss : List Statement). tasks_until ss (length ss)) (ran.kind ∙ opened.program) in
    subst (λ n. RoseBy n (g.P.Refusals.worked c.args.spawner.now) (g.P.Refusals.worked c.run_loop.new.spawner)) tasks ran.work
