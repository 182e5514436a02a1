-- The bytes that were written are the lines of the summary, which is the same for every limit and number of workers.
use Rattle.std.proofs.Common.{◌++◌, refl, ap, subst, ◌∙◌}
use Rattle.std.specs.Io.KnownBytes.{Appends}
use Rattle.ff_io.specs.Bytes.{AppendsPrefix}
use Rattle.ff_soak.specs.Networks.{soak_answer}
use Rattle.ff_soak.specs.Printing.{summary_text}
use Rattle.ff_soak.specs.Summaries.{summary_of}
use Rattle.ff_call_soak.proofs.soak.write_soak.Goals as goal

pub returns-in-Ok-write_all-clause-soaks : goal.returns-in-Ok-write_all-clause-soaks
returns-in-Ok-write_all-clause-soaks g c =
    let wrote =
    c.deref.ensures.value ∙ c.in_ok-print_summary.ensures ∙ ap (λ xs. xs ++ summary_text c.in-Ok.summary) c.new-text.ensures.items
    ∙ ap summary_text (c.in-Ok.ensures.summary 0 1) ∙ ap (λ m. summary_text (summary_of m (soak_answer 0 1 m))) c.min-n.ensures in
    record {
      none = refl;
      all = subst (λ b. Appends (g.O.Sink.taken c.args.out.now) (g.O.Sink.taken c.write_all.new.sink) b) wrote c.in-Ok-write_all.ensures.all;
      part = tt;
      counts = c.in-Ok-write_all.ensures.counts;
      starts = c.in-Ok.ensures.refusals;
    }

pub returns-clause-soaks : goal.returns-clause-soaks
returns-clause-soaks g c =
    let wrote =
    c.deref.ensures.value ∙ c.in_ok-print_summary.ensures ∙ ap (λ xs. xs ++ summary_text c.in-Ok.summary) c.new-text.ensures.items
    ∙ ap summary_text (c.in-Ok.ensures.summary 0 1) ∙ ap (λ m. summary_text (summary_of m (soak_answer 0 1 m))) c.min-n.ensures in
    record {
      none = tt;
      all = tt;
      part = subst (λ b. AppendsPrefix (g.O.Sink.taken c.args.out.now) (g.O.Sink.taken c.write_all.new.sink) b) wrote c.in-Err-write_all.ensures.prefix;
      counts = c.in-Err-write_all.ensures.counts;
      starts = c.in-Ok.ensures.refusals;
    }
