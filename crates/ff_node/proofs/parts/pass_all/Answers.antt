use Rattle.std.proofs.Common.{◌≡◌, ◌≤◌, ◌∙◌, length, sym, ap, refl, arith, false, slice_index_or}
use Rattle.ff_node.specs.Sends.{Sent}
use Rattle.ff_node.proofs.PartsSteps.{map-set_same, through_after-step, through_after-done, passed-step, passed-done}
use Rattle.ff_node.proofs.parts.pass_all.Goals as goal

pub returns-in_err-feed-clause-kind : goal.returns-in_err-feed-clause-kind
returns-in_err-feed-clause-kind g c =
    map-set_same g.N.Node.does.opening c.loop-i.nodes c.loop-i.i (slice_index_or c.loop-i.nodes c.loop-i.i c.index-nodes-i.result) c.feed.new.node
    (ap (slice_index_or c.loop-i.nodes c.loop-i.i) c.index-nodes-i.is) c.in_err-feed.ensures.kind
    ∙ c.loop-i.invariant.kind

pub loop-i-preserved : goal.loop-i-preserved
loop-i-preserved g c =
    let b = g.N.Node.does in
    let ns = c.loop-i.nodes in
    let es = c.loop-i.ended in
    let i = c.loop-i.i in
    let n = slice_index_or ns i c.index-nodes-i.result in
    let n_is : n ≡ slice_index_or ns i n = ap (slice_index_or ns i) c.index-nodes-i.is in
    let e = slice_index_or es i false in
    let m = c.feed.new.node in
    let f = c.feed.new.ended in
    let flags : length ns ≤ length es = omega (arith, c.requires.flags, c.loop-i.auto.nodes, c.loop-i.auto.ended) in
    record {
      kind = map-set_same b.opening ns i n m n_is c.in_ok-feed.ensures.kind ∙ c.loop-i.invariant.kind;
      state = through_after-step b ns es i n e (omega arith) flags n_is refl m f c.loop-i.out.sends c.feed.new.out.sends
          (ap (λ (o : Sent). o.sends) c.in_ok-feed.ensures.sends) c.in_ok-feed.ensures.state ∙ c.loop-i.invariant.state;
      sends = passed-step b ns es i n e (omega arith) flags n_is refl m f c.loop-i.out c.feed.new.out c.in_ok-feed.ensures.sends
          ∙ c.loop-i.invariant.sends;
    }

pub returns-clause-state : goal.returns-clause-state
returns-clause-state g c =
    sym (through_after-done g.N.Node.does c.loop-i.nodes c.loop-i.ended c.loop-i.i (omega arith) c.loop-i.out.sends) ∙ c.loop-i.invariant.state

pub returns-clause-sends : goal.returns-clause-sends
returns-clause-sends g c =
    sym (passed-done g.N.Node.does c.loop-i.nodes c.loop-i.ended c.loop-i.i (omega arith) c.loop-i.out) ∙ c.loop-i.invariant.sends
