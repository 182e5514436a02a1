-- One copy more is that of one part more.
use Rattle.std.proofs.Common.{◌<◌, [], ◌∷◌, ◌++◌, length, take, sym, ap, ◌∙◌, arith}
use Rattle.std.proofs.lemmas.List.{take_more}
use Rattle.ff_net.specs.Nodes.{all_opened}
use Rattle.ff_net.specs.Tree.{trees_of}
use Rattle.ff_net.proofs.NodeLists.{all_opened-push}
use Rattle.ff_net.proofs.copy.+copies.Goals as goal

pub all_copied-loop-part-preserved : goal.all_copied-loop-part-preserved
all_copied-loop-part-preserved g t c =
    let b = g.N.Node.does in
    let parts = c.args.parts.now in
    let i = c.loop-part.part-index in
    let part = c.part-item.result in
    let within : i < length parts = omega arith in
    let more = take_more parts i part within ∙ ap (λ p. take i parts ++ p ∷ []) (sym c.part-item.is) in
    ap trees_of c.in_ok-push.ensures.items
    ∙ all_opened-push b (take i parts) c.loop-part.copies.items part c.in_ok-copied.field-0 c.loop-part.invariant c.in_ok-copied.ensures
    ∙ ap (λ ns. all_opened b (trees_of ns)) (sym more)
