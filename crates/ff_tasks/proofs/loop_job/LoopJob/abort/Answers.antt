-- Abort carries no answer.
use Rattle.std.proofs.Common.{refl, sym, ap, ◌∙◌, length}
use Rattle.ff_rec.specs.declared.msg.Msg.TheVariants.{Abort}
use Rattle.ff_rec.specs.Counts.{counted}
use Rattle.ff_ring.specs.Ends.{put_of}
use Rattle.ff_tasks.proofs.Kept.{items-same}
use Rattle.ff_tasks.proofs.loop_job.LoopJob.abort.Goals as goal

pub invariant_of-self : goal.invariant_of-self
invariant_of-self g c = (
  c.self.invariant.0 ∙ ap (λ l. counted (length l)) (sym (items-same (put_of c.self.inside.answers) (put_of c.put_last.new.out) Abort c.put_last.ensures.put refl)),
  λ ended. let no : ⊥ = cc in absurd no,
)
