-- By the law of a settled ring.
use Rattle.std.proofs.Common.{◌∙◌}
use Rattle.ff_ring.specs.Ends.{got_of, held_of, put_of, there_of}
use Rattle.ff_tasks.proofs.Firsts.{Begins-settled}
use Rattle.ff_tasks.proofs.settling.settle_one.Goals as goal

pub returns : goal.returns
returns g c = record {
  there = Begins-settled (got_of c.settle.new.inn) (there_of c.settle.new.inn) (held_of c.settle.new.out) (put_of c.settle.new.out) c.args.job.got c.args.seat.put
      c.settle.ensures.law (c.settle.ensures.put ∙ c.into_ends-out.ensures.put) (c.settle.ensures.got ∙ c.into_ends-tasks.ensures.got);
  back = Begins-settled (got_of c.settle-2.new.inn) (there_of c.settle-2.new.inn) (held_of c.settle-2.new.out) (put_of c.settle-2.new.out) c.args.seat.got c.args.job.put
      c.settle-2.ensures.law (c.settle-2.ensures.put ∙ c.into_ends-tasks.ensures.put) (c.settle-2.ensures.got ∙ c.into_ends-out.ensures.got);
}
