-- Each sweep that doesn't end the run raises something, which stays below the budget.
use Rattle.std.proofs.Common.{◌+◌, ◌<◌, ◌≤◌, ◌-◌, [], length, sym, ◌∙◌, subst, arith}
use Rattle.std.proofs.lemmas.Bool.{not-true}
use Rattle.ff_net.proofs.GoodNets.{good}
use Rattle.ff_net.proofs.Kept.{kept_whole}
use Rattle.ff_net.specs.Counts.{units as units_of_net}
use Rattle.ff_net.specs.Places.{whole}
use Rattle.ff_net.specs.Tree.{tree_of}
use Rattle.ff_plan.specs.Traffic.{budget}
use Rattle.ff_steps.specs.Events.{Follows}
use Rattle.ff_steps.specs.NetCores.{IsGood}
use Rattle.ff_steps.specs.NetUnitLaws.{IsUnit-nodes}
use Rattle.ff_steps.specs.NetUnits.{net_does}
use Rattle.ff_sweeps.specs.Schedules.{sweep}
use Rattle.ff_sweeps.proofs.SoFar.{raised, units_are, below, made, raises, goes_on}
use Rattle.ff_sweeps.proofs.sweeping.run_sweeps.Goals as goal

pub returns-then-ended-clause-swept : goal.returns-then-ended-clause-swept
returns-then-ended-clause-swept g c =
    let b = g.N.Node.does in
    let keeps = g.met.N.Node.keeps_kind in
    let law = g.met.N.Node.class_law in
    let laws = IsUnit-nodes b keeps law in
    let now = c.args.core.now in
    let t = tree_of now.checked.net in
    let is_good = good b now.checked.version whole [] t (kept_whole b now.checked.version t now.checked.kept) in
    let plain = not-true _ c.requires.plain in
    let i = c.loop-made.invariant in
    let d = c.loop-made.core.core in
    let e = c.sweep_once-ended.new.core.core in
    let one : Follows (net_does b) (IsGood b now.limit t) (sweep (units_of_net t)) d e =
    subst (λ n. Follows (net_does b) (IsGood b now.limit t) (sweep n) d e)
    (units_are b keeps law laws now.limit now.keep t is_good plain now.core c.requires.opening c.loop-made.made d i.0)
    (subst (λ lim. Follows (net_does b) (IsGood b lim t) (sweep (length d.units)) d e) i.2
    (subst (λ ch. Follows (net_does b) (IsGood b c.loop-made.core.limit (tree_of ch.net)) (sweep (length d.units)) d e) i.1 c.sweep_once-ended.ensures.follows)) in
    made b keeps law laws now.limit now.keep t is_good plain now.core c.requires.opening c.loop-made.made d i.0
    c.saturating_add-made.result c.saturating_add-made.ensures e one (sym c.sweep_once-ended.ensures.ended ∙ c.if-ended.true)

pub loop-made-smaller : goal.loop-made-smaller
loop-made-smaller g c =
    let b = g.N.Node.does in
    let keeps = g.met.N.Node.keeps_kind in
    let law = g.met.N.Node.class_law in
    let laws = IsUnit-nodes b keeps law in
    let now = c.args.core.now in
    let t = tree_of now.checked.net in
    let is_good = good b now.checked.version whole [] t (kept_whole b now.checked.version t now.checked.kept) in
    let plain = not-true _ c.requires.plain in
    let i = c.loop-made.invariant in
    let d = c.loop-made.core.core in
    let e = c.sweep_once-ended.new.core.core in
    let one : Follows (net_does b) (IsGood b now.limit t) (sweep (units_of_net t)) d e =
    subst (λ n. Follows (net_does b) (IsGood b now.limit t) (sweep n) d e)
    (units_are b keeps law laws now.limit now.keep t is_good plain now.core c.requires.opening c.loop-made.made d i.0)
    (subst (λ lim. Follows (net_does b) (IsGood b lim t) (sweep (length d.units)) d e) i.2
    (subst (λ ch. Follows (net_does b) (IsGood b c.loop-made.core.limit (tree_of ch.net)) (sweep (length d.units)) d e) i.1 c.sweep_once-ended.ensures.follows)) in
    let going = sym c.sweep_once-ended.ensures.ended ∙ c.if-ended.false in
    let long = sym c.short_of_memory.ensures ∙ c.if-short_of_memory.false in
    let few : raised b t d + 1 ≤ budget b now.limit t now.core.input =
    below b keeps law laws now.limit now.keep t is_good plain now.core c.requires.opening c.loop-made.made d i.0 in
    let more : raised b t d + 1 ≤ raised b t e =
    raises b keeps law laws now.limit now.keep t is_good plain now.core c.requires.opening c.loop-made.made d i.0
    c.saturating_add-made.result c.saturating_add-made.ensures e one going long in
    let less : budget b now.limit t now.core.input - raised b t e < budget b now.limit t now.core.input - raised b t d = omega (arith, few, more) in
    less

pub loop-made-preserved : goal.loop-made-preserved
loop-made-preserved g c =
    let b = g.N.Node.does in
    let keeps = g.met.N.Node.keeps_kind in
    let law = g.met.N.Node.class_law in
    let laws = IsUnit-nodes b keeps law in
    let now = c.args.core.now in
    let t = tree_of now.checked.net in
    let is_good = good b now.checked.version whole [] t (kept_whole b now.checked.version t now.checked.kept) in
    let plain = not-true _ c.requires.plain in
    let i = c.loop-made.invariant in
    let d = c.loop-made.core.core in
    let e = c.sweep_once-ended.new.core.core in
    let one : Follows (net_does b) (IsGood b now.limit t) (sweep (units_of_net t)) d e =
    subst (λ n. Follows (net_does b) (IsGood b now.limit t) (sweep n) d e)
    (units_are b keeps law laws now.limit now.keep t is_good plain now.core c.requires.opening c.loop-made.made d i.0)
    (subst (λ lim. Follows (net_does b) (IsGood b lim t) (sweep (length d.units)) d e) i.2
    (subst (λ ch. Follows (net_does b) (IsGood b c.loop-made.core.limit (tree_of ch.net)) (sweep (length d.units)) d e) i.1 c.sweep_once-ended.ensures.follows)) in
    let going = sym c.sweep_once-ended.ensures.ended ∙ c.if-ended.false in
    let long = sym c.short_of_memory.ensures ∙ c.if-short_of_memory.false in
    let same = c.sweep_once-ended.ensures.same in (
      goes_on b keeps law laws now.limit now.keep t is_good plain now.core c.requires.opening c.loop-made.made d i.0
          c.saturating_add-made.result c.saturating_add-made.ensures e one going long,
      same.0 ∙ i.1,
      same.1 ∙ i.2,
      same.2 ∙ i.3,
      c.sweep_once-ended.ensures.input ∙ i.4,
      c.sweep_once-ended.ensures.taken ∙ i.5,
    )
