-- The bytes that were written are the lines of the store.
use Rattle.std.proofs.Common.{◌++◌, refl, ap, subst, ◌∙◌}
use Rattle.std.specs.Io.KnownBytes.{Appends}
use Rattle.ff_io.specs.Bytes.{AppendsPrefix}
use Rattle.ff_call_mdf.specs.StoreText.{store_text}
use Rattle.ff_call_mdf.proofs.command.write_results.Goals as goal

pub returns-in-Ok-write_all-clause-writes : goal.returns-in-Ok-write_all-clause-writes
returns-in-Ok-write_all-clause-writes g c =
    let wrote =
    c.deref.ensures.value ∙ c.in_ok-print_store.ensures ∙ ap (λ xs. xs ++ store_text c.in-Ok.store) c.new-text.ensures.items
    ∙ ap store_text c.in-Ok.ensures.store in
    record {
      none = refl;
      all = subst (λ b. Appends (g.O.Sink.taken c.args.out.now) (g.O.Sink.taken c.write_all.new.sink) b) wrote c.in-Ok-write_all.ensures.all;
      part = tt;
      counts = c.in-Ok-write_all.ensures.counts;
      starts = c.in-Ok.ensures.refusals;
    }

pub returns-clause-writes : goal.returns-clause-writes
returns-clause-writes g c =
    let wrote =
    c.deref.ensures.value ∙ c.in_ok-print_store.ensures ∙ ap (λ xs. xs ++ store_text c.in-Ok.store) c.new-text.ensures.items
    ∙ ap store_text c.in-Ok.ensures.store in
    record {
      none = tt;
      all = tt;
      part = subst (λ b. AppendsPrefix (g.O.Sink.taken c.args.out.now) (g.O.Sink.taken c.write_all.new.sink) b) wrote c.in-Err-write_all.ensures.prefix;
      counts = c.in-Err-write_all.ensures.counts;
      starts = c.in-Ok.ensures.refusals;
    }
