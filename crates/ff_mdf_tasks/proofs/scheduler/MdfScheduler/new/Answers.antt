-- Nothing happened yet.
use Rattle.std.proofs.Common.{◌≡◌, ℕ, List, None, length, ap, sym, subst, ◌∙◌}
use Rattle.std.proofs.lemmas.List.{length-replicate}
use Rattle.ff_mdf_tasks.specs.ByLinks.{answer_in}
use Rattle.ff_mdf_tasks.specs.Queues.{QueuesUntil}
use Rattle.ff_mdf_tasks.specs.Schedulers.{IsOpened}
use Rattle.ff_mdf_tasks.specs.Tasks.{MdfEvent}
use Rattle.ff_mdf_tasks.proofs.SchedulerOpens.{IsOpened-new, answer_in-none}
use Rattle.ff_mdf_tasks.proofs.scheduler.MdfScheduler.new.Goals as goal

pub returns : goal.returns
returns c =
    let ss = c.args.program.now in
    let readers = c.in_ok-readers.readers in
    let answers = c.in_ok-answers.answers.items in
    let q = c.in_ok-queue.queue in
    let count = length c.as_slice-count.result.now in
    let same : length c.as_slice-count.result.now ≡ length ss = ap (λ xs. length xs) (c.as_slice-count.ensures.value ∙ c.program.ensures.program) in
    let many = ap (λ xs. length xs) c.in_ok-answers.ensures ∙ length-replicate count None ∙ same in
    let none : (k : ℕ) → answer_in answers k ≡ None = λ k. ap (λ xs. answer_in xs k) c.in_ok-answers.ensures ∙ answer_in-none count k in
    let queues = subst (λ xs. QueuesUntil ss (answer_in xs) (length ss) q) c.as_slice.ensures.value c.in_ok-queue.ensures in
    subst (λ (e : List MdfEvent). IsOpened ss (record { program = ss; readers = readers; answers = answers; queue = q; next = 0; out = 0; events = e })) (sym c.new-2.ensures)
    (IsOpened-new ss readers answers q c.in_ok-readers.ensures many none queues)
