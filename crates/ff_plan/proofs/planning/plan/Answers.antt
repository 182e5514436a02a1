-- The network is within the limits, so that its numbers fit.
use Rattle.std.proofs.Common.{◌≡◌, ℕ, ◌+◌, ◌<◌, ◌^◌, List, [], ◌++◌, length, map, ap, ◌∙◌, arith}
use Rattle.ff_net.specs.Counts.{inner_edges, depth}
use Rattle.ff_net.specs.Limits.{most_units}
use Rattle.ff_net.specs.declared.net.Version.{Version}
use Rattle.ff_net.specs.declared.net.Version.TheVariants.{One, Two}
use Rattle.ff_net.specs.Tree.{Tree, tree_of}
use Rattle.ff_plan.specs.Laying.{lay}
use Rattle.ff_plan.specs.Plans.{rows_of, edge_of}
use Rattle.ff_plan.specs.Rows.{Row, Laid, range}
use Rattle.ff_plan.proofs.LaidUnits.{length-rows_of}
use Rattle.ff_plan.proofs.planning.plan.Goals as goal

-- what was laid from nothing on is the whole plan
laid-whole : {N : Type 0} (t u : Tree N) (old new : List Row) (at : List ℕ) → new ≡ old ++ map (λ (l : Laid N). l.row) (lay at u 0 1 2) → old ≡ [] → at ≡ [] → u ≡ t → new ≡ rows_of t
laid-whole {N} t u old new at added none top same =
    added
    ∙ ap (λ rs. rs ++ map (λ (l : Laid N). l.row) (lay at u 0 1 2)) none
    ∙ ap (λ p. map (λ (l : Laid N). l.row) (lay p u 0 1 2)) top
    ∙ ap (λ v. map (λ (l : Laid N). l.row) (lay [] v 0 1 2)) same

most_units-small : (v : Version) → most_units v < 2 ^ 32
most_units-small One = omega arith
most_units-small Two = omega arith

pub lay-requires : goal.lay-requires
lay-requires g c =
    let limits = c.checked_networks_are_good.ensures.limits in
    let same = ap tree_of c.net.ensures.net in
    record {
      room = omega (arith, ap depth same, limits.depth, ap length c.top.ensures);
      few = omega (arith, ap inner_edges same, limits.edges);
    }

pub edges_of-requires : goal.edges_of-requires
edges_of-requires g c =
    let t = tree_of c.args.checked.now.net in
    let rows =
    laid-whole t (tree_of c.net.result.now) c.new-units.result.items c.lay.new.units.items c.top.result c.in_ok-count.ensures.rows c.new-units.ensures.items c.top.ensures (ap tree_of c.net.ensures.net) in
    omega (arith, ap length c.deref.ensures.value, ap length rows, length-rows_of t, c.checked_networks_are_good.ensures.limits.units, most_units-small c.args.checked.now.version)

pub returns : goal.returns
returns g c =
    let t = tree_of c.args.checked.now.net in
    let rows =
    laid-whole t (tree_of c.net.result.now) c.new-units.result.items c.lay.new.units.items c.top.result c.in_ok-count.ensures.rows c.new-units.ensures.items c.top.ensures (ap tree_of c.net.ensures.net) in
    let many : c.in_ok-count.count ≡ inner_edges t + 2 = omega (arith, c.in_ok-count.ensures.next, ap inner_edges (ap tree_of c.net.ensures.net)) in
    let edges = c.in_ok-edges.ensures
    ∙ ap (λ us. map (edge_of us c.args.cap c.args.queue) (range 0 c.in_ok-count.count)) (c.deref.ensures.value ∙ rows)
    ∙ ap (λ n. map (edge_of (rows_of t) c.args.cap c.args.queue) (range 0 n)) many in
    ap (λ us. record { units = us; edges = c.in_ok-edges.edges.items }) rows
    ∙ ap (λ es. record { units = rows_of t; edges = es }) edges
