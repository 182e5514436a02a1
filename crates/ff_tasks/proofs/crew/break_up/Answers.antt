-- The jobs that are left are the first of those that hadn't begun.
use Rattle.std.proofs.Common.{◌≡◌, false, ◌∙◌, subst, arith}
use Rattle.std.proofs.lemmas.List.Elements.{All-pop}
use Rattle.std.specs.Option.{IfSome}
use Rattle.ff_tasks.proofs.crew.break_up.Goals as goal

pub abort-requires : goal.abort-requires
abort-requires g c =
    let left = All-pop (λ j. j.ended ≡ false) c.loop-job.jobs.items c.pop.new.self.items c.pop.result c.pop.ensures.items c.loop-job.invariant.begin in
    subst (λ r. IfSome r (λ j. j.ended ≡ false)) c.in-Some.is left.1

pub loop-job-preserved : goal.loop-job-preserved
loop-job-preserved g c = record {
  begin = (All-pop (λ j. j.ended ≡ false) c.loop-job.jobs.items c.pop.new.self.items c.pop.result c.pop.ensures.items c.loop-job.invariant.begin).0;
  few = omega (arith, c.in-Some.ensures.len, c.loop-job.invariant.few);
  room = c.pop.ensures.capacity ∙ c.loop-job.invariant.room;
}
