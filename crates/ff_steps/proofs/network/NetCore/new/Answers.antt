-- The core of a network before its first event is at a good moment.
use Rattle.std.proofs.Common.{◌≡◌, [], ◌≤◌, length, map, sym, ap, ◌∙◌, subst, arith}
use Rattle.ff_net.specs.Tree.{tree_of}
use Rattle.ff_plan.specs.Plans.{Plan}
use Rattle.ff_steps.specs.Core.{CoreState, IsSound, taken_rejects}
use Rattle.ff_steps.specs.NetCores.{port_row, edge_queues, opened_net, IsNetCore, IsGood}
use Rattle.ff_steps.specs.NetUnitLaws.{IsUnit-nodes}
use Rattle.ff_steps.specs.NetUnits.{NetState, net_does}
use Rattle.ff_steps.proofs.NetBegins.{IsGood-core}
use Rattle.ff_steps.proofs.NetMade.{some-cap, few-opened_units, opened_core-net, IsSound-net, IsNetCore-net}
use Rattle.ff_steps.proofs.Untaken.{untaken-fresh}
use Rattle.ff_steps.proofs.network.NetCore.new.Goals as goal

pub queues-requires : goal.queues-requires
queues-requires g c =
    some-cap (tree_of c.args.checked.net) c.args.cap c.requires.low c.edges.result.now (c.edges.ensures ∙ ap (λ (p : Plan). p.edges) c.in_ok-plan.ensures)

pub start-core-requires-clause-few : goal.start-core-requires-clause-few
start-core-requires-clause-few g c =
    let few : length c.in_ok-units.units.items ≤ 65536 =
    few-opened_units g.N.Node.does c.args.limit c.args.keep (tree_of c.args.checked.net) c.args.checked.version c.checked_networks_are_good.ensures.limits.units
    c.in_ok-units.units.items c.in_ok-units.ensures.units in
    omega (arith, few, c.in_ok-units.units.ok)

pub start-core-requires-clause-sound : goal.start-core-requires-clause-sound
start-core-requires-clause-sound g c =
    let b = g.N.Node.does in
    let t = tree_of c.args.checked.net in
    let rows = c.in_ok-rows.ensures ∙ ap (map port_row) (c.units.ensures ∙ ap (λ (p : Plan). p.units) c.in_ok-plan.ensures) in
    let queues = c.in_ok-edges.ensures ∙ ap edge_queues (c.edges.ensures ∙ ap (λ (p : Plan). p.edges) c.in_ok-plan.ensures) in
    subst (IsSound (net_does b))
    (sym (opened_core-net b c.args.limit c.args.keep t c.args.cap c.in_ok-units.units.items c.in_ok-rows.rows.items c.in_ok-edges.edges.items c.args.input
    c.in_ok-units.ensures.units rows queues))
    (IsSound-net b c.args.limit c.args.keep t g.met.N.Node.keeps_kind c.checked_networks_are_good.ensures.good c.each_edge_has_two_ends.ensures c.args.cap c.args.input)

pub invariant_of-result : goal.invariant_of-result
invariant_of-result g c =
    let b = g.N.Node.does in
    let t = tree_of c.args.checked.net in
    let rows = c.in_ok-rows.ensures ∙ ap (map port_row) (c.units.ensures ∙ ap (λ (p : Plan). p.units) c.in_ok-plan.ensures) in
    let queues = c.in_ok-edges.ensures ∙ ap edge_queues (c.edges.ensures ∙ ap (λ (p : Plan). p.edges) c.in_ok-plan.ensures) in
    let opened = opened_core-net b c.args.limit c.args.keep t c.args.cap c.in_ok-units.units.items c.in_ok-rows.rows.items c.in_ok-edges.edges.items c.args.input
    c.in_ok-units.ensures.units rows queues in record {
      made = subst (IsNetCore b c.args.limit c.args.keep t) (sym (c.start-core.ensures ∙ opened))
          (IsNetCore-net b c.args.limit c.args.keep t g.met.N.Node.keeps_kind c.checked_networks_are_good.ensures.good c.each_edge_has_two_ends.ensures c.args.cap c.args.input);
    }

pub returns-clause-opened : goal.returns-clause-opened
returns-clause-opened g c =
    let b = g.N.Node.does in
    let t = tree_of c.args.checked.net in
    let rows = c.in_ok-rows.ensures ∙ ap (map port_row) (c.units.ensures ∙ ap (λ (p : Plan). p.units) c.in_ok-plan.ensures) in
    let queues = c.in_ok-edges.ensures ∙ ap edge_queues (c.edges.ensures ∙ ap (λ (p : Plan). p.edges) c.in_ok-plan.ensures) in
    c.start-core.ensures
    ∙ opened_core-net b c.args.limit c.args.keep t c.args.cap c.in_ok-units.units.items c.in_ok-rows.rows.items c.in_ok-edges.edges.items c.args.input
    c.in_ok-units.ensures.units rows queues

pub returns-clause-good : goal.returns-clause-good
returns-clause-good g c =
    let b = g.N.Node.does in
    let t = tree_of c.args.checked.net in
    subst (IsGood b c.args.limit t) (sym (returns-clause-opened g c))
    (IsGood-core b g.met.N.Node.keeps_kind (IsUnit-nodes b g.met.N.Node.keeps_kind g.met.N.Node.class_law) c.args.limit c.args.keep t c.checked_networks_are_good.ensures.good c.cut_runs.ensures (opened_net b c.args.limit c.args.keep t c.args.cap c.args.input)
    (IsNetCore-net b c.args.limit c.args.keep t g.met.N.Node.keeps_kind c.checked_networks_are_good.ensures.good c.each_edge_has_two_ends.ensures c.args.cap c.args.input)
    (IsSound-net b c.args.limit c.args.keep t g.met.N.Node.keeps_kind c.checked_networks_are_good.ensures.good c.each_edge_has_two_ends.ensures c.args.cap c.args.input))

pub returns-clause-opening : goal.returns-clause-opening
returns-clause-opening g c =
    let b = g.N.Node.does in
    let t = tree_of c.args.checked.net in
    let opened = returns-clause-opened g c in (
      c.args.cap,
      c.requires.low,
      opened ∙ ap (opened_net b c.args.limit c.args.keep t c.args.cap) (sym (ap (λ (x : CoreState (NetState _)). x.input) opened)),
    )

pub returns-clause-untaken : goal.returns-clause-untaken
returns-clause-untaken g c =
    let b = g.N.Node.does in
    let t = tree_of c.args.checked.net in
    let made = IsNetCore-net b c.args.limit c.args.keep t g.met.N.Node.keeps_kind c.checked_networks_are_good.ensures.good c.each_edge_has_two_ends.ensures c.args.cap c.args.input in
    subst (λ (x : CoreState (NetState _)). taken_rejects (net_does b) x ≡ []) (sym (returns-clause-opened g c))
    (untaken-fresh (net_does b) (IsUnit-nodes b g.met.N.Node.keeps_kind g.met.N.Node.class_law) _ made.made)
