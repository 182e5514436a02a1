-- One ring more.
use Rattle.std.proofs.Common.{◌≡◌, ◌<◌, ℕ, List, Option, ◌∷◌, [], ◌++◌, Some, ◌+◌, length, take, sym, ap, ◌∙◌, subst}
use Rattle.std.proofs.Math.ListN.{get_or}
use Rattle.std.proofs.lemmas.List.{length_push, take_more}
use Rattle.std.proofs.lemmas.Slice.Zip.{all_zipped_more}
use Rattle.std.specs.List.{AllZip}
use Rattle.ff_plan.specs.declared.layout.Edge.{Edge}
use Rattle.ff_engine.specs.Boards.{IsFreshPair, IsRingOf, IsReadAs}
use Rattle.ff_engine.proofs.board.make_rings.Goals as goal

-- the ring of one edge more
AllZip-more : {A : Type 0} (R : Edge → Option A → Type 0) (edges : List Edge) (i : ℕ) (d : Edge) (ends ends' : List (Option A)) (end : A) → i < length edges
    → AllZip R (take i edges) ends → ends' ≡ ends ++ Some end ∷ [] → R (get_or edges i d) (Some end)
    → AllZip R (take (i + 1) edges) ends'
AllZip-more R edges i d ends ends' end within zipped is made =
    subst (λ es. AllZip R es ends') (sym (take_more edges i d within))
    (subst (AllZip R (take i edges ++ get_or edges i d ∷ [])) (sym is)
    (all_zipped_more R (take i edges) ends (get_or edges i d) (Some end) zipped made))

pub loop-edge-preserved : goal.loop-edge-preserved
loop-edge-preserved c =
    let inn = c.set_eager-in-loop-edge.new.self in
    let out = c.set_eager.new.self in
    let made = c.in_ok-out.ensures in
    let set = c.set_eager.ensures in
    let told = c.set_eager-in-loop-edge.ensures in
    let ins = c.loop-edge.ins.items in
    let outs = c.loop-edge.outs.items in record {
      fresh = subst (λ is. AllZip IsFreshPair is c.push-in-loop-edge.new.self.items) (sym c.in_ok-push.ensures.items)
          (subst (λ os. AllZip IsFreshPair (ins ++ Some inn ∷ []) os) (sym c.in_ok-push-2.ensures.items)
          (all_zipped_more IsFreshPair ins outs (Some inn) (Some out) c.loop-edge.invariant.fresh
          (record { pair = told.link ∙ (made.pair ∙ sym set.link); got = told.got ∙ made.got.0; put = set.put ∙ made.put; room = subst (λ n. 0 < n) (sym set.room) made.made.some })));
      count = ap length c.in_ok-push.ensures.items ∙ length_push ins (Some inn) ∙ ap (λ n. n + 1) c.loop-edge.invariant.count;
      caps = AllZip-more (IsRingOf c.args.delivery c.args.rows.now) c.args.edges.now c.loop-edge.edge-index _ outs _ out c.loop-edge-test.true c.loop-edge.invariant.caps
          c.in_ok-push-2.ensures.items (set.made _ made.made, set.eager ∙ c.hurries.ensures);
      told = AllZip-more (IsReadAs c.args.delivery c.args.rows.now) c.args.edges.now c.loop-edge.edge-index _ ins _ inn c.loop-edge-test.true c.loop-edge.invariant.told
          c.in_ok-push.ensures.items (told.eager ∙ c.is_told.ensures);
    }
