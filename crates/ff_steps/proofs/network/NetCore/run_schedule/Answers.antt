-- What holds of the core of any units, said of a network.
use Rattle.std.proofs.Common.{sym, ◌∙◌}
use Rattle.ff_net.specs.Tree.{tree_of}
use Rattle.ff_steps.specs.Core.{IsSound}
use Rattle.ff_steps.specs.NetCores.{IsNetCore, IsGood}
use Rattle.ff_steps.specs.NetUnitLaws.{IsUnit-nodes}
use Rattle.ff_steps.specs.NetUnits.{net_does}
use Rattle.ff_steps.proofs.NetBegins.{IsGood-core, IsNetCore-made}
use Rattle.ff_steps.proofs.NetEnds.{TellsOver-core, LogsAreRight-core, Answers-core, number-core, held-core, held_of_one-core, held_of_node-core}
use Rattle.ff_steps.proofs.Schedules.{Follows-good, made-follows}
use Rattle.ff_steps.proofs.network.NetCore.run_schedule.Goals as goal

pub invariant_of-self : goal.invariant_of-self
invariant_of-self g c =
    let b = g.N.Node.does in
    let d = net_does b in record {
      made = IsNetCore-made b c.args.self.now.limit c.args.self.now.keep (tree_of c.args.self.now.checked.net) c.args.self.now.core c.run_schedule.new.core
          (made-follows d (IsSound d) c.args.schedule.now c.args.self.now.core c.run_schedule.new.core c.run_schedule.ensures.follows) c.args.self.now.made;
    }

pub returns-clause-follows : goal.returns-clause-follows
returns-clause-follows g c =
    let b = g.N.Node.does in
    let d = net_does b in
    let t = tree_of c.args.self.now.checked.net in
    Follows-good d (IsNetCore b c.args.self.now.limit c.args.self.now.keep t) (IsSound d) (IsGood b c.args.self.now.limit t) (IsNetCore-made b c.args.self.now.limit c.args.self.now.keep t)
    (λ e made sound. IsGood-core b g.met.N.Node.keeps_kind (IsUnit-nodes b g.met.N.Node.keeps_kind g.met.N.Node.class_law) c.args.self.now.limit c.args.self.now.keep t c.checked_networks_are_good.ensures.good c.cut_runs.ensures e made sound)
    c.args.schedule.now c.args.self.now.core c.run_schedule.new.core c.args.self.now.made c.run_schedule.ensures.follows

pub returns-clause-input : goal.returns-clause-input
returns-clause-input g c =
    let d = net_does g.N.Node.does in
    (made-follows d (IsSound d) c.args.schedule.now c.args.self.now.core c.run_schedule.new.core c.run_schedule.ensures.follows).1

pub returns-clause-over : goal.returns-clause-over
returns-clause-over g c = λ done whole.
    let b = g.N.Node.does in
    let d = net_does b in
    let t = tree_of c.args.self.now.checked.net in
    let made = IsNetCore-made b c.args.self.now.limit c.args.self.now.keep t c.args.self.now.core c.run_schedule.new.core
    (made-follows d (IsSound d) c.args.schedule.now c.args.self.now.core c.run_schedule.new.core c.run_schedule.ensures.follows) c.args.self.now.made in
    TellsOver-core b g.met.N.Node.keeps_kind (IsUnit-nodes b g.met.N.Node.keeps_kind g.met.N.Node.class_law) c.args.self.now.limit c.args.self.now.keep t c.checked_networks_are_good.ensures.good c.whole_runs.ensures c.run_schedule.new.core
    made c.run_schedule.ensures.sound (sym c.run_schedule.ensures.ended ∙ done) whole

pub returns-clause-tasks : goal.returns-clause-tasks
returns-clause-tasks g c = λ done whole.
    let b = g.N.Node.does in
    let d = net_does b in
    let t = tree_of c.args.self.now.checked.net in
    let made = IsNetCore-made b c.args.self.now.limit c.args.self.now.keep t c.args.self.now.core c.run_schedule.new.core
    (made-follows d (IsSound d) c.args.schedule.now c.args.self.now.core c.run_schedule.new.core c.run_schedule.ensures.follows) c.args.self.now.made in
    LogsAreRight-core b g.met.N.Node.keeps_kind (IsUnit-nodes b g.met.N.Node.keeps_kind g.met.N.Node.class_law) c.args.self.now.limit c.args.self.now.keep t c.checked_networks_are_good.ensures.good c.whole_runs.ensures c.run_schedule.new.core
    made c.run_schedule.ensures.sound (sym c.run_schedule.ensures.ended ∙ done) whole (c.each_task_is_done_once.ensures c.args.self.now.limit)

pub returns-clause-answers : goal.returns-clause-answers
returns-clause-answers g c = λ done whole none.
    let b = g.N.Node.does in
    let d = net_does b in
    let t = tree_of c.args.self.now.checked.net in
    let made = IsNetCore-made b c.args.self.now.limit c.args.self.now.keep t c.args.self.now.core c.run_schedule.new.core
    (made-follows d (IsSound d) c.args.schedule.now c.args.self.now.core c.run_schedule.new.core c.run_schedule.ensures.follows) c.args.self.now.made in
    Answers-core b g.met.N.Node.keeps_kind (IsUnit-nodes b g.met.N.Node.keeps_kind g.met.N.Node.class_law) c.args.self.now.limit c.args.self.now.keep t c.checked_networks_are_good.ensures.good c.whole_runs.ensures c.run_schedule.new.core
    made c.run_schedule.ensures.sound (sym c.run_schedule.ensures.ended ∙ done) whole none

pub returns-clause-rejects : goal.returns-clause-rejects
returns-clause-rejects g c = λ done whole none.
    let b = g.N.Node.does in
    let d = net_does b in
    let t = tree_of c.args.self.now.checked.net in
    let made = IsNetCore-made b c.args.self.now.limit c.args.self.now.keep t c.args.self.now.core c.run_schedule.new.core
    (made-follows d (IsSound d) c.args.schedule.now c.args.self.now.core c.run_schedule.new.core c.run_schedule.ensures.follows) c.args.self.now.made in
    number-core b g.met.N.Node.keeps_kind (IsUnit-nodes b g.met.N.Node.keeps_kind g.met.N.Node.class_law) c.args.self.now.limit c.args.self.now.keep t c.checked_networks_are_good.ensures.good c.whole_runs.ensures c.run_schedule.new.core
    made c.run_schedule.ensures.sound (sym c.run_schedule.ensures.ended ∙ done) whole none

pub returns-clause-held : goal.returns-clause-held
returns-clause-held g c = λ done whole none kept.
    let b = g.N.Node.does in
    let d = net_does b in
    let t = tree_of c.args.self.now.checked.net in
    let made = IsNetCore-made b c.args.self.now.limit c.args.self.now.keep t c.args.self.now.core c.run_schedule.new.core
    (made-follows d (IsSound d) c.args.schedule.now c.args.self.now.core c.run_schedule.new.core c.run_schedule.ensures.follows) c.args.self.now.made in
    held-core b g.met.N.Node.keeps_kind (IsUnit-nodes b g.met.N.Node.keeps_kind g.met.N.Node.class_law) c.args.self.now.limit c.args.self.now.keep t c.checked_networks_are_good.ensures.good c.whole_runs.ensures c.run_schedule.new.core
    made c.run_schedule.ensures.sound (sym c.run_schedule.ensures.ended ∙ done) whole none kept

pub returns-clause-held_of_one : goal.returns-clause-held_of_one
returns-clause-held_of_one g c = λ done whole kept one.
    let b = g.N.Node.does in
    let d = net_does b in
    let t = tree_of c.args.self.now.checked.net in
    let made = IsNetCore-made b c.args.self.now.limit c.args.self.now.keep t c.args.self.now.core c.run_schedule.new.core
    (made-follows d (IsSound d) c.args.schedule.now c.args.self.now.core c.run_schedule.new.core c.run_schedule.ensures.follows) c.args.self.now.made in
    held_of_one-core b g.met.N.Node.keeps_kind (IsUnit-nodes b g.met.N.Node.keeps_kind g.met.N.Node.class_law) c.args.self.now.limit c.args.self.now.keep t c.checked_networks_are_good.ensures.good c.whole_runs.ensures c.run_schedule.new.core
    made c.run_schedule.ensures.sound (sym c.run_schedule.ensures.ended ∙ done) whole kept one

pub returns-clause-held_of_node : goal.returns-clause-held_of_node
returns-clause-held_of_node g c = λ done whole kept copied one.
    let b = g.N.Node.does in
    let d = net_does b in
    let t = tree_of c.args.self.now.checked.net in
    let made = IsNetCore-made b c.args.self.now.limit c.args.self.now.keep t c.args.self.now.core c.run_schedule.new.core
    (made-follows d (IsSound d) c.args.schedule.now c.args.self.now.core c.run_schedule.new.core c.run_schedule.ensures.follows) c.args.self.now.made in
    held_of_node-core b g.met.N.Node.keeps_kind (IsUnit-nodes b g.met.N.Node.keeps_kind g.met.N.Node.class_law) c.args.self.now.limit c.args.self.now.keep t c.checked_networks_are_good.ensures.good c.whole_runs.ensures c.run_schedule.new.core
    made c.run_schedule.ensures.sound (sym c.run_schedule.ensures.ended ∙ done) whole kept copied one
