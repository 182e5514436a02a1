-- The entry of one name more.
use Rattle.std.proofs.Common.{◌∙◌, None, length, get_or, map, ap, sym}
use Rattle.ff_prog.specs.Links.{link}
use Rattle.ff_mdf.specs.Linked.{linked}
use Rattle.ff_mdf.specs.Stores.{after}
use Rattle.ff_mdf.proofs.Entries.{map-valued-push}
use Rattle.ff_mdf.proofs.LinkedValues.{linked-index}
use Rattle.ff_mdf.proofs.serial.one_thread.Goals as goal

pub loop-k-preserved : goal.loop-k-preserved
loop-k-preserved c =
    let ss = c.args.program.now in
    let xs = c.in_ok-answers.answers.items in
    let names = c.out_names-names.result.now in
    let k = c.loop-k.k in
    let n = c.index-names-k.result in
    let links = c.out_links-links.ensures ∙ ap (map (link ss (length ss))) (sym c.out_names-names.ensures) in
    let value = c.linked.ensures
    ∙ ap (λ ys. linked ys (get_or c.out_links-links.result.now k None)) c.as_slice.ensures.value
    ∙ ap (λ ls. linked xs (get_or ls k None)) links
    ∙ linked-index ss xs names k n c.in_ok-answers.ensures c.loop-k-test.true c.index-names-k.is in
    map-valued-push (after ss (length ss)) c.loop-k.store c.push.new.self names k n c.linked.result c.loop-k-test.true c.index-names-k.is c.loop-k.invariant c.in_ok-push.ensures.ok value
