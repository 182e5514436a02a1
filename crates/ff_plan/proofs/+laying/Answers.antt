-- Each form is laid as its tree is.
use Rattle.std.proofs.Common.{rules, ◌≡◌, ◌==◌, if◌then◌else◌, suc, [], ◌∷◌, drop, length-append, length-drop, ◌+◌, ◌-◌, ◌*◌, ◌<◌, ◌≤◌, ◌++◌, map, length, OnOk, ap, sym, subst, ◌∙◌, arith}
use Rattle.ff_net.specs.declared.net.Net.TheViews.{the_lemmas}
use Rattle.ff_net.specs.Counts.{count, depth, deepest, inner_edges, all_inner_edges}
use Rattle.ff_net.specs.Tree.{Pipe, tree_of, trees_of, tree_of-Pipe}
use Rattle.ff_net.specs.Places.{child}
use Rattle.ff_net.proofs.CountLaws.{count-trees}
use Rattle.ff_net.proofs.Search.{trees_of-drop}
use Rattle.ff_plan.specs.AlikeRows.{set_rows, wrap_rows}
use Rattle.ff_plan.specs.declared.kind.UnitKind.{UnitKind}
use Rattle.ff_plan.specs.Laying.{lay, lay_parts, lay_copies}
use Rattle.ff_plan.specs.Rows.{Laid}
use Rattle.ff_plan.proofs.Lefts.{left-times, map-lay_copies-left, map-lay_parts-more, chosen-last, chosen-other, done-some}
use Rattle.ff_plan.proofs.LaidRows.{map-lay-A2a, map-lay-Wrap}
use Rattle.ff_plan.proofs.+laying.Goals as goal

pub laying::lay-lay_parts-requires : goal.laying::lay-lay_parts-requires
laying::lay-lay_parts-requires g t c κs within =
    let net : tree_of c.args.net.now ≡ Pipe (trees_of c.deref.result.now) =
    ap tree_of c.in-Pipe.is ∙ tree_of-Pipe c.in-Pipe.parts ∙ ap (λ ns. Pipe (trees_of ns)) (sym c.deref.ensures.value) in
    let room : length c.args.at.now + deepest (trees_of c.deref.result.now) < 16 = omega (arith, ap depth net, c.requires.room) in
    let few = subst (λ t. c.args.span.inner + inner_edges t ≤ 2048) net c.requires.few in
    (search (rules, the_lemmas), (within, (room, few)))

pub laying::lay-returns-in-A2a-clause-rows : goal.laying::lay-returns-in-A2a-clause-rows
laying::lay-returns-in-A2a-clause-rows g t c =
    let row = λ (l : Laid g.row.N.Denot). l.row in
    let at = c.args.at.now in
    let s = c.args.span in
    let n = c.in-A2a.left in
    let m = c.in-A2a.right in
    let sets = λ (kind : UnitKind). set_rows at n kind m s.from s.to s.inner (s.inner + n) (s.inner + 2 * n) (s.inner + 2 * n + n * m) (s.inner + 2 * n + n * m + m) in
    let rows : map row (lay at (tree_of c.args.net.now) s.from s.to s.inner) ≡ sets c.route_kind.result =
    ap (λ u. map row (lay at (tree_of u) s.from s.to s.inner)) c.in-A2a.is
    ∙ map-lay-A2a at n (tree_of c.in-A2a.left_node.value) c.in-A2a.route m (tree_of c.in-A2a.right_node.value) s.from s.to s.inner
    ∙ ap sets (sym c.route_kind.ensures) in
    subst (λ rs. OnOk c.lay_sets.result (c.lay_sets.new.units.items ≡ c.args.units.now.items ++ rs)) (sym rows) c.lay_sets.ensures.rows

pub laying::lay-returns-in-Wrap-clause-rows : goal.laying::lay-returns-in-Wrap-clause-rows
laying::lay-returns-in-Wrap-clause-rows g t c =
    let row = λ (l : Laid g.row.N.Denot). l.row in
    let at = c.args.at.now in
    let s = c.args.span in
    let rows : map row (lay at (tree_of c.args.net.now) s.from s.to s.inner) ≡ wrap_rows at c.in-Wrap.workers s.from s.to s.inner =
    ap (λ u. map row (lay at (tree_of u) s.from s.to s.inner)) c.in-Wrap.is
    ∙ map-lay-Wrap at c.in-Wrap.workers (tree_of c.in-Wrap.worker.value) c.in-Wrap.test s.from s.to s.inner in
    subst (λ rs. OnOk c.lay_wrap.result (c.lay_wrap.new.units.items ≡ c.args.units.now.items ++ rs)) (sym rows) c.lay_wrap.ensures.rows

pub laying::lay_parts-loop-i-init : goal.laying::lay_parts-loop-i-init
laying::lay_parts-loop-i-init g t c =
    let row = λ (l : Laid g.row.N.Denot). l.row in
    let s = c.args.span in
    let all = trees_of c.args.parts.now in
    record {
      rows = ap (λ b. c.args.units.now.items ++ map row (lay_parts c.args.at.now 1 all s.from s.to s.inner (s.inner + b))) c.between_parts.ensures;
      edges = omega (arith, c.between_parts.ensures);
      shallow = omega arith;
      between = omega arith;
    }

pub laying::lay_parts-lay-requires : goal.laying::lay_parts-lay-requires
laying::lay_parts-lay-requires g t c κs within =
    let i = c.loop-i.i in
    let part = c.index-parts-i.result in
    let parts = trees_of-drop c.args.parts.now i part c.loop-i-test.true c.index-parts-i.is in
    let steps : length c.down.result ≡ length c.args.at.now + 1 = omega (arith, ap length c.down.ensures, length-append c.args.at.now ((i + 1) ∷ [])) in
    let room : length c.down.result + depth (tree_of part) ≤ 16 = omega (arith, steps, ap deepest parts, c.loop-i.invariant.shallow, c.requires.room) in
    let few : c.loop-i.inner + inner_edges (tree_of part) ≤ 2048 = omega (arith, ap all_inner_edges parts, c.loop-i.invariant.edges, c.requires.few) in
    (search (rules, the_lemmas), (within, (room, few)))

pub laying::lay_parts-overflow_add-between : goal.laying::lay_parts-overflow_add-between
laying::lay_parts-overflow_add-between g t c = omega (arith, count-trees c.args.parts.now, c.loop-i.invariant.between, c.loop-i-test.true, c.requires.few)

pub laying::lay_parts-loop-i-preserved : goal.laying::lay_parts-loop-i-preserved
laying::lay_parts-loop-i-preserved g t c =
    let row = λ (l : Laid g.row.N.Denot). l.row in
    let at = c.args.at.now in
    let i = c.loop-i.i in
    let o = c.args.span.to in
    let j = c.loop-i.between in
    let e = c.loop-i.inner in
    let part = c.index-parts-i.result in
    let out = c.out_of-to.result in
    let rest = trees_of (drop (i + 1) c.args.parts.now) in
    let parts = trees_of-drop c.args.parts.now i part c.loop-i-test.true c.index-parts-i.is in
    let next : c.in_ok-inner.inner ≡ e + inner_edges (tree_of part) = c.in_ok-inner.ensures.next in
    let many : count rest ≡ length c.args.parts.now - (i + 1) = count-trees (drop (i + 1) c.args.parts.now) ∙ length-drop (i + 1) c.args.parts.now in
    let within : i + 1 ≤ length c.args.parts.now = omega (arith, c.loop-i-test.true) in
    let chosen : out ≡ (if (i + 1) == length c.args.parts.now then o else j) = c.out_of-to.ensures in
    let one = lay (child at (i + 1)) (tree_of part) c.loop-i.from out e in
    let others = lay_parts at (i + 1 + 1) rest out o (suc j) (e + inner_edges (tree_of part)) in
    let split =
    ap (λ ts. map row (lay_parts at (i + 1) ts c.loop-i.from o j e)) parts
    ∙ map-lay_parts-more at (i + 1) (tree_of part) rest c.loop-i.from o j e out
    (chosen-last (i + 1) (length c.args.parts.now) o j out (count rest) chosen many within)
    (chosen-other (i + 1) (length c.args.parts.now) o j out (count rest) chosen many) in
    let added = c.in_ok-inner.ensures.rows ∙ ap (λ p. c.loop-i.units.items ++ map row (lay p (tree_of part) c.loop-i.from out e)) c.down.ensures in
    let more_between : j + 1 ≡ suc j = omega arith in
    record {
      rows =
          ap (λ f. c.lay.new.units.items ++ map row (lay_parts at (i + 1 + 1) rest out o (j + 1) f)) next
          ∙ ap (λ k. c.lay.new.units.items ++ map row (lay_parts at (i + 1 + 1) rest out o k (e + inner_edges (tree_of part)))) more_between
          ∙ done-some c.loop-i.units.items c.lay.new.units.items (map row (lay_parts at (i + 1) (trees_of (drop i c.args.parts.now)) c.loop-i.from o j e))
          (map row others)
          (c.args.units.now.items ++ map row (lay_parts at 1 (trees_of c.args.parts.now) c.args.span.from o c.args.span.inner (c.args.span.inner + (count (trees_of c.args.parts.now) - 1))))
          (map row one) c.loop-i.invariant.rows split added;
      edges = omega (arith, next, ap all_inner_edges parts, c.loop-i.invariant.edges);
      shallow = omega (arith, ap deepest parts, c.loop-i.invariant.shallow);
      between = omega (arith, c.loop-i.invariant.between);
    }

pub farms::lay_workers-loop-k-preserved : goal.farms::lay_workers-loop-k-preserved
farms::lay_workers-loop-k-preserved g t c =
    let k = c.loop-k.k in
    let n = c.args.workers in
    let one = lay c.args.at.now (tree_of c.args.worker.now) in
    let width = inner_edges (tree_of c.args.worker.now) in
    let i = c.args.span.from in
    let o = c.args.span.to in
    let e = c.loop-k.inner in
    let row = λ (l : Laid g.row.N.Denot). l.row in
    let next : c.in_ok-inner.inner ≡ e + width = c.in_ok-inner.ensures.next in
    record {
      rows =
          ap (λ f. c.lay.new.units.items ++ map row (lay_copies one width (i + (k + 1)) (o + (k + 1)) f (n - (k + 1)))) next
          ∙ done-some c.loop-k.units.items c.lay.new.units.items (map row (lay_copies one width (i + k) (o + k) e (n - k)))
          (map row (lay_copies one width (i + (k + 1)) (o + (k + 1)) (e + width) (n - (k + 1))))
          (c.args.units.now.items ++ map row (lay_copies one width i o c.args.span.inner n)) (map row (one (i + k) (o + k) e))
          c.loop-k.invariant.rows (map-lay_copies-left one width i o e k n c.loop-k-test.true) c.in_ok-inner.ensures.rows;
      edges = omega (arith, next, left-times k n width c.loop-k-test.true, c.loop-k.invariant.edges);
    }
