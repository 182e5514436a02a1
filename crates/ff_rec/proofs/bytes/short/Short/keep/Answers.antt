-- The part stands at the front.
use Rattle.std.proofs.Common.{◌-◌, ◌≤◌, List, ℕ, length, take, slice_range, ap, ◌∙◌, arith, length-take}
use Rattle.ff_rec.proofs.Filled.{take-kept}
use Rattle.ff_rec.proofs.bytes.short.Short.keep.Goals as goal

pub returns : goal.returns
returns c =
    let d = c.self.inside.bytes in
    let len = c.self.inside.len in
    let s = c.args.start in
    let e = c.args.end in
    let few = c.self.invariant in
    let low : e ≤ len = omega (arith, c.requires.within, ap length c.self.view_is, length-take len d) in
    ap (take (e - s)) c.copy_within.ensures.after
    ∙ take-kept d s e len low (omega (arith, few, c.self.told))
    ∙ ap (λ (q : List ℕ). slice_range q s e) c.self.view_is
