-- Each unit is opened, and the plan is wired.
use denote.Param.Send.{sendable}
use Rattle.std.proofs.Crossing.{crosses}
use Rattle.std.proofs.Common.{◌≡◌, ◌≤◌, ◌∙◌, length, map, sym, ap, subst, arith}
use Rattle.std.proofs.lemmas.List.{length-map}
use Rattle.std.specs.List.{All, AllZip}
use Rattle.ff_net.specs.Counts.{edges}
use Rattle.ff_net.specs.Tree.{tree_of}
use Rattle.ff_plan.specs.Plans.{Plan, rows_of}
use Rattle.ff_plan.specs.Rows.{range}
use Rattle.ff_plan.specs.declared.kind.Queue.TheVariants.{Ring}
use Rattle.ff_plan.specs.declared.layout.Edge.{Edge}
use Rattle.ff_steps.specs.NetUnits.{net_does}
use Rattle.ff_spawn.specs.Lists.{Crew}
use Rattle.ff_engine.specs.Callers.{CallerState}
use Rattle.ff_engine.specs.Jobs.{JobState, IsOpened}
use Rattle.ff_engine.specs.Lines.{IsWired, Linked}
use Rattle.ff_engine.specs.Networks.{UnitOf}
use Rattle.ff_engine.specs.RingSizes.{size_for, size_of, plan_size}
use Rattle.ff_engine.proofs.Opened.{IsOpened-units}
use Rattle.ff_engine.proofs.PlanEdges.{high-caps, length-edges, low-caps, sizes-edges}
use Rattle.ff_engine.proofs.UnitSent.{IsSend-unit}
use Rattle.ff_engine.proofs.starting.prepare.Goals as goal

pub running_room-requires-send-U : goal.running_room-requires-send-U
running_room-requires-send-U g c κs within = let u = IsSend-unit _ c.type_bounds.send-N in search (sendable, crosses) depth 20

pub link_units-requires-clause-opened : goal.link_units-requires-clause-opened
link_units-requires-clause-opened g c =
    let b = g.N.Node.does in
    let t = tree_of c.args.checked.now.net in
    let laws = c.plans_keep_laws.ensures in
    let rows : c.into_parts-rows.result.0.items ≡ rows_of t = c.into_parts-rows.ensures.units ∙ ap (λ (p : Plan). p.units) c.in_ok-plan.ensures in
    subst (λ rs. AllZip (λ r u. IsOpened (net_does b) r u) rs c.in_ok-units.units.items) (sym rows)
    (subst (λ us. AllZip (λ r u. IsOpened (net_does b) r u) (rows_of t) us) (sym c.in_ok-units.ensures.units)
    (IsOpened-units b c.args.limit c.args.keep laws.kind t laws.good))

pub link_units-requires-clause-wired : goal.link_units-requires-clause-wired
link_units-requires-clause-wired g c =
    let t = tree_of c.args.checked.now.net in
    let rows : c.into_parts-rows.result.0.items ≡ rows_of t = c.into_parts-rows.ensures.units ∙ ap (λ (p : Plan). p.units) c.in_ok-plan.ensures in
    let many : length c.deref.result.now ≡ edges t =
    ap length (c.deref.ensures.value ∙ c.into_parts-rows.ensures.edges ∙ ap (λ (p : Plan). p.edges) c.in_ok-plan.ensures) ∙ length-edges (rows_of t) c.args.cap Ring (edges t) in
    subst (λ rs. IsWired rs (length c.deref.result.now)) (sym rows) (subst (λ n. IsWired (rows_of t) n) (sym many) c.plans_are_wired.ensures)

pub link_units-requires-clause-low : goal.link_units-requires-clause-low
link_units-requires-clause-low g c =
    let t = tree_of c.args.checked.now.net in
    subst (λ es. All (λ (edge : Edge). 1 ≤ edge.cap) es)
    (sym (c.deref.ensures.value ∙ c.into_parts-rows.ensures.edges ∙ ap (λ (p : Plan). p.edges) c.in_ok-plan.ensures))
    (low-caps (rows_of t) c.args.cap Ring c.requires.low (range 0 (edges t)))

pub link_units-requires-clause-high : goal.link_units-requires-clause-high
link_units-requires-clause-high g c =
    let t = tree_of c.args.checked.now.net in
    subst (λ es. All (λ (edge : Edge). edge.cap ≤ 4096) es)
    (sym (c.deref.ensures.value ∙ c.into_parts-rows.ensures.edges ∙ ap (λ (p : Plan). p.edges) c.in_ok-plan.ensures))
    (high-caps (rows_of t) c.args.cap Ring c.requires.high (range 0 (edges t)))

pub returns : goal.returns
returns g c =
    let t = tree_of c.args.checked.now.net in
    let made = c.in_ok-network.ensures in
    let jobs = c.in_ok-network.network.jobs.items in
    let rows : c.into_parts-rows.result.0.items ≡ rows_of t = c.into_parts-rows.ensures.units ∙ ap (λ (p : Plan). p.units) c.in_ok-plan.ensures in
    let many : length c.deref.result.now ≡ edges t =
    ap length (c.deref.ensures.value ∙ c.into_parts-rows.ensures.edges ∙ ap (λ (p : Plan). p.edges) c.in_ok-plan.ensures) ∙ length-edges (rows_of t) c.args.cap Ring (edges t) in
    let sizes : map (λ (edge : Edge). size_for edge.cap) c.deref.result.now ≡ map (plan_size t c.args.cap) (range 0 (length c.deref.result.now)) =
    ap (map (λ (edge : Edge). size_for edge.cap)) (c.deref.ensures.value ∙ c.into_parts-rows.ensures.edges ∙ ap (λ (p : Plan). p.edges) c.in_ok-plan.ensures)
    ∙ sizes-edges (rows_of t) c.args.cap Ring (edges t) ∙ ap (λ k. map (plan_size t c.args.cap) (range 0 k)) (sym many) in
    let number : length jobs ≡ length c.in_ok-units.units.items = sym (length-map jobs (λ job. job.unit)) ∙ ap length made.units in record {
      put = ap (λ (s : CallerState). s.put) c.new-3.ensures.seen ∙ made.put;
      got = ap (λ (s : CallerState). s.got) c.new-3.ensures.seen ∙ made.got;
      text = ap (λ (s : CallerState). s.text) c.new-3.ensures.seen;
      holds = ap (λ (s : CallerState). s.holds) c.new-3.ensures.seen ∙ c.has_wrap.ensures;
      first_is = ap size_of c.new-3.ensures.first ∙ made.first (plan_size t c.args.cap) sizes;
      sizes = made.sizes (plan_size t c.args.cap) sizes;
      linked = subst (λ (s : CallerState). Linked s.writes jobs s.reads) (sym c.new-3.ensures.seen) made.linked;
      units_are = made.units ∙ c.in_ok-units.ensures.units;
      rows_are = made.rows ∙ rows;
      wired = subst (λ rs. IsWired rs (length c.in_ok-network.network.board.ins.items)) (sym (made.rows ∙ rows))
          (subst (λ n. IsWired (rows_of t) n) (sym (made.ins ∙ many)) c.plans_are_wired.ensures);
      places = made.outs ∙ sym made.ins;
      fresh = made.fresh;
      empty = c.in_ok-room.ensures.items;
      roomy = omega (arith, number, c.len.ensures, c.in_ok-room.ensures.capacity, c.in_ok-units.units.ok.0);
      none = ap (λ (r : Crew (JobState (UnitOf g.row.N.Denot))). r.jobs) c.in_ok-running.ensures;
      many = omega (arith, ap (λ (r : Crew (JobState (UnitOf g.row.N.Denot))). r.room) c.in_ok-running.ensures, c.len-3.ensures, c.in_ok-network.network.jobs.ok.0);
    }
