-- What stood behind the part stands behind the other bytes.
use Rattle.std.proofs.Common.{◌≡◌, ◌+◌, ◌-◌, ◌≤◌, ◌++◌, List, ℕ, length, take, drop, sym, ap, ap₂, ◌∙◌, arith, length-take}
use Rattle.std.specs.List.{copy_within}
use Rattle.ff_rec.proofs.Filled.{take-replaced}
use Rattle.ff_rec.proofs.bytes.short.Short.replace.Goals as goal
use borrow.Rule.Slice.PartMut.{put_mid}

pub returns : goal.returns
returns c =
    let d = c.self.inside.bytes in
    let by = c.args.by.now in
    let len = c.self.inside.len in
    let s = c.args.start in
    let e = c.args.end in
    let last = s + length by in
    let long : length (take len d) ≡ len = omega (arith, c.self.invariant, c.self.told, length-take len d) in
    let old_long : length c.args.self.now ≡ len = ap length (sym c.self.view_is) ∙ long in
    let low : e ≤ len = omega (arith, c.requires.within) in
    ap (λ (n : ℕ). take (last + (n - e)) (put_mid s (last - s) c.copy_within.new.self c.copy_from_slice.new.self)) c.from-len.ensures
    ∙ ap (take (last + (len - e)))
    (ap₂ (put_mid s (last - s)) (c.copy_within.ensures.after ∙ ap (λ (n : ℕ). copy_within d e n last) c.from-len.ensures) c.copy_from_slice.ensures.after)
    ∙ take-replaced d by s e len (last - s) c.requires.order low (omega (arith, c.self.invariant, c.self.told)) (omega (arith, c.requires.room, c.self.told)) (omega arith)
    ∙ ap (λ (q : List ℕ). take s q ++ (by ++ drop e q)) c.self.view_is
