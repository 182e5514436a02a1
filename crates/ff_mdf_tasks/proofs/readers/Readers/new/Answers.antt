-- The readers, with one operand more.
use Rattle.std.proofs.Common.{ap, ◌∙◌}
use Rattle.ff_mdf_tasks.specs.Sources.{reader_of, with_reader}
use Rattle.ff_mdf_tasks.proofs.ReaderLaws.{ReadersUntil-next}
use Rattle.ff_mdf_tasks.proofs.readers.Readers.new.Goals as goal

pub loop-t-preserved : goal.loop-t-preserved
loop-t-preserved c =
    let ss = c.args.program.now in
    let t = c.loop-t.t in
    let latest = c.loop-t.latest.items in
    let source_is = c.source_of-source.ensures in
    ReadersUntil-next ss t latest c.loop-t.earlier.items c.replace_reader.new.latest.items c.push.new.self.items c.replace_reader.result c.loop-t.invariant
    (c.replace_reader.ensures.after ∙ ap (λ o. with_reader latest o t) source_is) (c.replace_reader.ensures.before ∙ ap (reader_of latest) source_is)
    c.in_ok-push.ensures.items
