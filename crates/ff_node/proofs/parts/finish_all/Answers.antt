use Rattle.std.proofs.Common.{◌≡◌, ◌≤◌, ◌∙◌, length, sym, ap, refl, arith, false, slice_index_or}
use Rattle.ff_node.proofs.PartsSteps.{map-set_same, passed_last-step, passed_last-done}
use Rattle.ff_node.proofs.parts.finish_all.Goals as goal

pub returns-in_err-end-clause-kind : goal.returns-in_err-end-clause-kind
returns-in_err-end-clause-kind g c =
    map-set_same g.N.Node.does.opening c.loop-k.nodes c.loop-k.k (slice_index_or c.loop-k.nodes c.loop-k.k c.index-nodes-k.result) c.end.new.node
    (ap (slice_index_or c.loop-k.nodes c.loop-k.k) c.index-nodes-k.is) c.in_err-end.ensures.kind
    ∙ c.loop-k.invariant.kind

pub loop-k-preserved : goal.loop-k-preserved
loop-k-preserved g c =
    let b = g.N.Node.does in
    let ns = c.loop-k.nodes in
    let es = c.loop-k.ended in
    let i = c.loop-k.k in
    let n = slice_index_or ns i c.index-nodes-k.result in
    let n_is : n ≡ slice_index_or ns i n = ap (slice_index_or ns i) c.index-nodes-k.is in
    let e = slice_index_or es i false in
    let m = c.end.new.node in
    let f = c.end.new.ended in
    let flags : length ns ≤ length es = omega (arith, c.requires.flags, c.loop-k.auto.nodes, c.loop-k.auto.ended) in
    record {
      kind = map-set_same b.opening ns i n m n_is c.in_ok-end.ensures.kind ∙ c.loop-k.invariant.kind;
      sends = passed_last-step b ns es i n e (omega arith) flags n_is refl m f c.loop-k.out c.end.new.out c.in_ok-end.ensures.sends
          ∙ c.loop-k.invariant.sends;
    }

pub returns-clause-sends : goal.returns-clause-sends
returns-clause-sends g c =
    sym (passed_last-done g.N.Node.does c.loop-k.nodes c.loop-k.ended c.loop-k.k (omega arith) c.loop-k.out) ∙ c.loop-k.invariant.sends
