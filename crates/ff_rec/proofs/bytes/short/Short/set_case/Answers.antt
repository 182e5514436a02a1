-- As many bytes stand there as before.
use Rattle.std.proofs.Common.{◌≡◌, ◌-◌, ◌≤◌, List, ℕ, length, take, slice_range, sym, ap, ◌∙◌, arith, length-take}
use Rattle.ff_rec.specs.Block.{replaced}
use Rattle.ff_rec.specs.Cases.{in_case}
use Rattle.ff_rec.proofs.Cases.{length-in_case}
use Rattle.ff_rec.proofs.Filled.{length-slice_range, slice_range-take, take-put_mid}
use Rattle.ff_rec.proofs.bytes.short.Short.set_case.Goals as goal
use borrow.Rule.Slice.PartMut.{put_mid}

pub returns : goal.returns
returns c =
    let d = c.self.inside.bytes in
    let len = c.self.inside.len in
    let s = c.args.start in
    let e = c.args.end in
    let low : e ≤ len = omega (arith, c.requires.within, ap length c.self.view_is, length-take len d) in
    let within : len ≤ length d = omega (arith, c.self.invariant, c.self.told) in
    let part : slice_range (take len d) s e ≡ slice_range d s e = slice_range-take d s e len low in
    let long : length (slice_range (take len d) s e) ≡ e - s = ap length part ∙ length-slice_range d s e (omega arith) in
    let by = in_case c.args.case (slice_range (take len d) s e) in
    ap (λ (q : List ℕ). take len (put_mid s (e - s) d q)) (c.put_on.ensures ∙ ap (in_case c.args.case) (sym part))
    ∙ take-put_mid d by s e len c.requires.order low within (length-in_case c.args.case _ ∙ long)
    ∙ ap (λ (q : List ℕ). replaced q s e (in_case c.args.case (slice_range q s e))) c.self.view_is
