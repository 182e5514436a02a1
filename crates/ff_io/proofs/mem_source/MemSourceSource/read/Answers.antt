use Rattle.std.proofs.Common.{◌≡◌, length, sym, ap, ◌∙◌, min, arith, length-take}
use Rattle.ff_io.proofs.Portions.{take-append-drop_moved, drop_at_end}
use Rattle.ff_io.proofs.mem_source.MemSourceSource.read.Goals as goal

pub returns-clause-bytes : goal.returns-clause-bytes
returns-clause-bytes c =
    let n = c.min-portion.result in
    let room = length c.args.buf.now in
    let portion = c.min-portion.ensures ∙ ap (λ k. min k room) c.min.ensures in
    let whole : length c.copy_from_slice.new.self ≡ n = omega (arith, c.copy_from_slice.ensures.len, length-take n c.args.buf.now) in (
      take-append-drop_moved _ _ _ _ _ c.self.inside.given n (sym (ap (λ s. s.bytes) c.self.view_is)) c.deref-2.ensures.value c.copy_from_slice.ensures.after whole,
      λ none some_room. drop_at_end _ _ c.self.inside.given c.self.inside.most room n c.deref-2.ensures.value c.self.invariant.1 c.requires portion none,
    )
