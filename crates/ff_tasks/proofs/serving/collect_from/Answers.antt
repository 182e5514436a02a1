-- One answer more.
use Rattle.std.proofs.Common.{refl, ◌∙◌, sym, subst, ◌<◌, length}
use Rattle.ff_tasks.proofs.Serves.{ServesAt-none, ServesAt-trans, Works-refl}
use Rattle.ff_tasks.proofs.serving.collect_from.Goals as goal

pub loop-taken-init : goal.loop-taken-init
loop-taken-init g c = record {
  serves = ServesAt-none g.S.Scheduler.does c.args.w c.args.master.now c.args.seat.now c.args.master.now c.args.seat.now
      (Works-refl g.S.Scheduler.does c.args.master.now c.requires.kept) refl refl;
  link = refl;
  told = refl;
  worker = c.requires.worker;
}

pub loop-taken-preserved : goal.loop-taken-preserved
loop-taken-preserved g c = record {
  serves = ServesAt-trans g.S.Scheduler.does c.args.w c.args.master.now c.args.seat.now c.loop-taken.master c.loop-taken.seat c.collect_one.new.master
      c.collect_one.new.seat c.loop-taken.invariant.serves c.in_ok-collect_one.ensures.serves;
  link = c.in_ok-collect_one.ensures.link ∙ c.loop-taken.invariant.link;
  told = c.in_ok-collect_one.ensures.told ∙ c.loop-taken.invariant.told;
  worker = subst (λ n. c.args.w < n) (sym c.in_ok-collect_one.ensures.serves.works.workers) c.loop-taken.invariant.worker;
}

pub returns-then-not-branch-clause-serves : goal.returns-then-not-branch-clause-serves
returns-then-not-branch-clause-serves g c =
    ServesAt-trans g.S.Scheduler.does c.args.w c.args.master.now c.args.seat.now c.loop-taken.master c.loop-taken.seat c.collect_one.new.master
    c.collect_one.new.seat c.loop-taken.invariant.serves c.in_ok-collect_one.ensures.serves
