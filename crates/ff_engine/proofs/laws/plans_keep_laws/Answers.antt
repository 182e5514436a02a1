-- By the laws of the node and those of plans.
use Rattle.ff_engine.proofs.laws.plans_keep_laws.Goals as goal

pub returns : goal.returns
returns g c = record {
  kind = g.met.N.Node.keeps_kind;
  class = g.met.N.Node.class_law;
  good = c.checked_networks_are_good.ensures.good;
  whole_runs = c.whole_runs.ensures;
  cut_runs = c.cut_runs.ensures;
  log_laws = c.each_task_is_done_once.ensures;
}
