-- The line of one name more was appended.
use Rattle.std.proofs.Common.{◌++◌, ap, sym, ◌∙◌, append_assoc, take}
use Rattle.ff_mdf.specs.Stores.{entry}
use Rattle.ff_call_mdf.specs.StoreText.{entry_line, store_text}
use Rattle.ff_call_mdf.proofs.Entries.{store_text-more}
use Rattle.ff_call_mdf.proofs.store_text.print_store.Goals as goal

pub loop-k-preserved : goal.loop-k-preserved
loop-k-preserved c =
    let es = c.args.store.now in
    let k = c.loop-k.k in
    let line = entry_line (entry c.name.result.now c.value.result) in
    c.in_ok-print_entry.ensures
    ∙ ap (λ l. l ++ line) c.loop-k.invariant
    ∙ append_assoc c.args.into.now.items (store_text (take k es)) line
    ∙ ap (λ l. c.args.into.now.items ++ l) (sym (store_text-more es k c.name.result.now c.value.result c.name.ensures c.value.ensures))
