use Rattle.std.proofs.Common.{rules, ◌≡◌, ◌+◌, length, drop, None, Some, ap, sym, subst, ◌∙◌, arith}
use Rattle.ff_net.specs.declared.net.Net.TheViews.{the_lemmas}
use Rattle.ff_net.specs.Tree.{tree_of, trees_of, tree_of-Pipe, tree_of-Comb}
use Rattle.ff_net.specs.Counts.{depth, deepest}
use Rattle.ff_net.specs.Places.{all_in, all_piped, all_combed, child, past}
use Rattle.ff_net.specs.Room.{HasRoom}
use Rattle.ff_net.specs.Rules.{fails, places, first}
use Rattle.ff_net.proofs.Search.{places-here, room_inside, room_part, places-found, places-skip, trees_of-drop}
use Rattle.ff_net.proofs.find.+find.Goals as goal

pub find-returns-then-fails : goal.find-returns-then-fails
find-returns-then-fails g t c =
    let fail = fails g.N.Node.does c.args.version c.args.rule in
    ap Some c.same.ensures ∙ sym (places-here fail c.args.spot c.args.path.now (tree_of c.args.net.now) (sym c.fails.ensures ∙ c.if-fails.true))

pub find-find_piped-requires : goal.find-find_piped-requires
find-find_piped-requires g t c κs within =
    let deep = deepest (trees_of c.deref.result.now) in
    let one_more : depth (tree_of c.args.net.now) ≡ deep + 1 =
    ap depth (ap tree_of c.in-Pipe.is ∙ tree_of-Pipe c.in-Pipe.parts) ∙ ap (λ ns. deepest (trees_of ns) + 1) (sym c.deref.ensures.value) in
    let room = room_inside g.N.Node.does c.args.version c.args.rule c.args.spot c.args.path.now (tree_of c.args.net.now) deep
    (subst (λ d. HasRoom c.args.rule (length c.args.path.now) d) one_more c.requires) (sym c.fails.ensures ∙ c.if-fails.false) in
    (search (rules, the_lemmas), (within, room))

pub find-find_combed-requires : goal.find-find_combed-requires
find-find_combed-requires g t c κs within =
    let deep = deepest (trees_of c.deref-in-Comb.result.now) in
    let one_more : depth (tree_of c.args.net.now) ≡ deep + 1 =
    ap depth (ap tree_of c.in-Comb.is ∙ tree_of-Comb c.in-Comb.parts) ∙ ap (λ ns. deepest (trees_of ns) + 1) (sym c.deref-in-Comb.ensures.value) in
    let room = room_inside g.N.Node.does c.args.version c.args.rule c.args.spot c.args.path.now (tree_of c.args.net.now) deep
    (subst (λ d. HasRoom c.args.rule (length c.args.path.now) d) one_more c.requires) (sym c.fails.ensures ∙ c.if-fails.false) in
    (search (rules, the_lemmas), (within, room))

pub find_piped-returns-in-Some : goal.find_piped-returns-in-Some
find_piped-returns-in-Some g t c =
    let fail = fails g.N.Node.does c.args.version c.args.rule in
    let s = c.loop-i.spot in
    let i = c.loop-i.i in
    let at = c.args.path.now in
    let part = c.index-parts-i.result in
    let here = all_in s (child at (i + 1)) (tree_of part) in
    let behind = all_piped (past (tree_of part) s) at (i + 1 + 1) (trees_of (drop (i + 1) c.args.parts.now)) in
    let found : first (places fail here) ≡ Some c.in-Some.found =
    sym (ap (λ p. first (places fail (all_in s p (tree_of part)))) c.down.ensures) ∙ sym c.find.ensures ∙ c.in-Some.is in
    sym (c.loop-i.invariant.first
    ∙ ap (λ ts. first (places fail (all_piped s at (i + 1) ts))) (trees_of-drop c.args.parts.now i part c.loop-i-test.true c.index-parts-i.is)
    ∙ places-found fail here behind c.in-Some.found found)

pub find_piped-loop-i-preserved : goal.find_piped-loop-i-preserved
find_piped-loop-i-preserved g t c =
    let fail = fails g.N.Node.does c.args.version c.args.rule in
    let s = c.loop-i.spot in
    let i = c.loop-i.i in
    let at = c.args.path.now in
    let part = c.index-parts-i.result in
    let here = all_in s (child at (i + 1)) (tree_of part) in
    let left = trees_of (drop (i + 1) c.args.parts.now) in
    let behind = all_piped (past (tree_of part) s) at (i + 1 + 1) left in
    let parts = trees_of-drop c.args.parts.now i part c.loop-i-test.true c.index-parts-i.is in
    let none : first (places fail here) ≡ None =
    sym (ap (λ p. first (places fail (all_in s p (tree_of part)))) c.down.ensures) ∙ sym c.find.ensures ∙ c.in_default.is in
    record {
      room = room_part c.args.rule (length at + 1) (deepest (trees_of (drop i c.args.parts.now))) (deepest left) c.loop-i.invariant.room (omega (arith, ap deepest parts));
      first = c.loop-i.invariant.first
          ∙ ap (λ ts. first (places fail (all_piped s at (i + 1) ts))) parts
          ∙ places-skip fail here behind none
          ∙ ap (λ r. first (places fail (all_piped r at (i + 1 + 1) left))) (sym c.past-spot.ensures);
    }

pub find_combed-returns-in-Some : goal.find_combed-returns-in-Some
find_combed-returns-in-Some g t c =
    let fail = fails g.N.Node.does c.args.version c.args.rule in
    let s = c.args.spot in
    let i = c.loop-i.i in
    let at = c.args.path.now in
    let part = c.index-parts-i.result in
    let here = all_in s (child at (i + 1)) (tree_of part) in
    let behind = all_combed s at (i + 1 + 1) (trees_of (drop (i + 1) c.args.parts.now)) in
    let found : first (places fail here) ≡ Some c.in-Some.found =
    sym (ap (λ p. first (places fail (all_in s p (tree_of part)))) c.down.ensures) ∙ sym c.find.ensures ∙ c.in-Some.is in
    sym (c.loop-i.invariant.first
    ∙ ap (λ ts. first (places fail (all_combed s at (i + 1) ts))) (trees_of-drop c.args.parts.now i part c.loop-i-test.true c.index-parts-i.is)
    ∙ places-found fail here behind c.in-Some.found found)

pub find_combed-loop-i-preserved : goal.find_combed-loop-i-preserved
find_combed-loop-i-preserved g t c =
    let fail = fails g.N.Node.does c.args.version c.args.rule in
    let s = c.args.spot in
    let i = c.loop-i.i in
    let at = c.args.path.now in
    let part = c.index-parts-i.result in
    let here = all_in s (child at (i + 1)) (tree_of part) in
    let left = trees_of (drop (i + 1) c.args.parts.now) in
    let behind = all_combed s at (i + 1 + 1) left in
    let parts = trees_of-drop c.args.parts.now i part c.loop-i-test.true c.index-parts-i.is in
    let none : first (places fail here) ≡ None =
    sym (ap (λ p. first (places fail (all_in s p (tree_of part)))) c.down.ensures) ∙ sym c.find.ensures ∙ c.in_default.is in
    record {
      room = room_part c.args.rule (length at + 1) (deepest (trees_of (drop i c.args.parts.now))) (deepest left) c.loop-i.invariant.room (omega (arith, ap deepest parts));
      first = c.loop-i.invariant.first ∙ ap (λ ts. first (places fail (all_combed s at (i + 1) ts))) parts ∙ places-skip fail here behind none;
    }
