-- What stood behind the part stands at its start.
use Rattle.std.proofs.Common.{◌+◌, ◌-◌, ◌≤◌, ◌++◌, List, ℕ, length, take, drop, ap, ◌∙◌, arith, length-take}
use Rattle.std.specs.List.{copy_within}
use Rattle.ff_rec.proofs.Filled.{take-removed}
use Rattle.ff_rec.proofs.bytes.short.Short.remove.Goals as goal

pub returns : goal.returns
returns c =
    let d = c.self.inside.bytes in
    let len = c.self.inside.len in
    let s = c.args.start in
    let e = c.args.end in
    let low : e ≤ len = omega (arith, c.requires.within, ap length c.self.view_is, length-take len d) in
    ap (λ (n : ℕ). take (s + (n - e)) c.copy_within.new.self) c.from-len.ensures
    ∙ ap (take (s + (len - e))) (c.copy_within.ensures.after ∙ ap (λ (n : ℕ). copy_within d e n s) c.from-len.ensures)
    ∙ take-removed d s e len c.requires.order low (omega (arith, c.self.invariant, c.self.told))
    ∙ ap (λ (q : List ℕ). take s q ++ drop e q) c.self.view_is
