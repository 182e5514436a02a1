-- The first part's step, and then those of the others.
use Rattle.std.proofs.Common.{◌≡◌, List, [], ◌∷◌, ◌<◌, ◌∙◌, length, ap, refl, rules, false, slice_index_or}
use Rattle.std.proofs.lemmas.Result.{on_ok_weaker}
use Rattle.ff_rec.specs.Lines.{Rec}
use Rattle.ff_node.specs.Comb.{part, part_sends, part_rejects}
use Rattle.ff_node.specs.Passing.{sent_alone}
use Rattle.ff_node.specs.Sends.{add}
use Rattle.ff_node.proofs.PartsSteps.{passed-step}
use Rattle.ff_node.proofs.parts.pass_one.Goals as goal

pub returns-clause-sends : goal.returns-clause-sends
returns-clause-sends g c =
    let ns = c.args.nodes.now in
    let es = c.args.ended.now in
    let some : 0 < length ns = search rules in
    let n = slice_index_or ns 0 c.index-nodes-0.result in
    let n_is : n ≡ slice_index_or ns 0 n = ap (slice_index_or ns 0) c.index-nodes-0.is in
    let e = slice_index_or es 0 false in
    let out = c.args.out.now in
    let sends = part_sends g.N.Node.does (part n e) (c.args.r ∷ []) in
    let rejects = part_rejects g.N.Node.does (part n e) (c.args.r ∷ []) in
    let fed_it = c.in_ok-give.ensures.sends ∙ ap (λ (us : List Rec). add (record out { sends = us }) sends rejects) c.requires.empty in
    on_ok_weaker c.pass_all.result
    (λ sent. sent ∙ passed-step g.N.Node.does ns es 0 n e some c.requires.flags n_is refl c.give.new.node c.give.new.ended
    (sent_alone c.args.r c.args.out.now) c.give.new.out fed_it)
    c.pass_all.ensures.sends
