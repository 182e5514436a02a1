use Rattle.std.proofs.Common.{◌-◌, ◌+◌, ◌++◌, ap, ◌∙◌, arith}
use Rattle.ff_rec.specs.Lines.{text}
use Rattle.ff_soak.specs.Records.{records_behind}
use Rattle.ff_soak.proofs.Texts.{text-next}
use Rattle.ff_soak.proofs.source.refill.Goals as goal

pub loop-i-preserved : goal.loop-i-preserved
loop-i-preserved c =
    let i = c.loop-i.i in
    let n = c.args.records in
    record {
      bytes = ap (λ items. items ++ text (records_behind (i + 1) (n - (i + 1)))) c.push_line.ensures.bytes
          ∙ text-next c.loop-i.chunk.items i n (omega arith) ∙ c.loop-i.invariant.bytes;
      room = omega arith;
    }
