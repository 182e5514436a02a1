use Rattle.std.proofs.Common.{◌≡◌, ◌+◌, ◌-◌, ◌*◌, ◌≤◌, ◌++◌, map, drop}
use Rattle.ff_net.specs.Counts.{count, deepest, inner_edges, all_inner_edges}
use Rattle.ff_net.specs.Tree.{tree_of, trees_of}
use Rattle.ff_plan.specs.Laying.{lay, lay_parts, lay_copies}
use Rattle.ff_plan.proofs.+laying.Given as goal

-- the units so far with those of the parts that are left are all
abbrev pub invariant-laying::lay_parts-loop-i : goal.invariant-laying::lay_parts-loop-i
invariant-laying::lay_parts-loop-i g l =
    let left = trees_of (drop l.i l.parts) in
    let all = trees_of l.parts in
    record {
      rows : l.units.items ++ map (λ l. l.row) (lay_parts l.at (l.i + 1) left l.from l.span.to l.between l.inner)
          ≡ l.initial.units.items ++ map (λ l. l.row) (lay_parts l.at 1 all l.span.from l.span.to l.span.inner (l.span.inner + (count all - 1)));
      edges : l.inner + all_inner_edges left ≡ l.span.inner + ((count all - 1) + all_inner_edges all);
      shallow : deepest left ≤ deepest all;
      between : l.between ≡ l.span.inner + l.i;
    }

-- the units so far with those of the workers that are left are all
abbrev pub invariant-farms::lay_workers-loop-k : goal.invariant-farms::lay_workers-loop-k
invariant-farms::lay_workers-loop-k g l =
    let one = lay l.at (tree_of l.worker) in
    let width = inner_edges (tree_of l.worker) in
    record {
      rows : l.units.items ++ map (λ l. l.row) (lay_copies one width (l.span.from + l.k) (l.span.to + l.k) l.inner (l.workers - l.k))
          ≡ l.initial.units.items ++ map (λ l. l.row) (lay_copies one width l.span.from l.span.to l.span.inner l.workers);
      edges : l.inner + (l.workers - l.k) * width ≡ l.span.inner + l.workers * width;
    }
