use Rattle.std.proofs.Common.{◌≡◌, ◌-◌, ◌+◌, ◌++◌, length, drop, take, refl, sym, ap, ◌∙◌, append_assoc, arith, length-take}
use Rattle.ff_io.proofs.Portions.{take-append-drop_moved}
use Rattle.ff_rec.specs.Lines.{text}
use Rattle.ff_soak.specs.Records.{records_behind}
use Rattle.ff_soak.proofs.Chunks.{read-whole}
use Rattle.ff_soak.proofs.source.SoakSourceSource.read.Goals as goal

pub returns-clause-bytes : goal.returns-clause-bytes
returns-clause-bytes c =
    let n = c.min-portion.result in
    let items = c.more-given.new.chunk.items in
    let given = c.more-given.result.0 in
    let made = c.more-given.result.1 in
    let rest = text (records_behind made (c.self.inside.records - made)) in
    let tail = drop n c.args.buf.now in
    let whole : length c.copy_from_slice.new.self ≡ n = omega (arith, c.copy_from_slice.ensures.len, length-take n c.args.buf.now) in
    let moved = take-append-drop_moved (drop given items) items c.deref.result.now c.copy_from_slice.new.self tail given n refl c.deref.ensures.value c.copy_from_slice.ensures.after whole in (
      sym (ap (λ s. s.left) c.self.view_is) ∙ sym c.more-given.ensures.bytes ∙ ap (λ bytes. bytes ++ rest) moved
          ∙ append_assoc (take n (c.copy_from_slice.new.self ++ tail)) (drop (given + n) items) rest,
      λ none some_room. read-whole items c.deref.result.now given (length c.args.buf.now) n made c.self.inside.records c.deref.ensures.value c.min-portion.ensures
          (omega (arith, c.requires, none)) (omega (arith, none)) (λ few. c.more-given.ensures.whole (omega (arith, few, c.more-given.new.chunk.ok.0))),
    )
