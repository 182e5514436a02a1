-- The first tab from `start` on ends the field, unless it stands behind the bytes.
use Rattle.std.proofs.Common.{◌≡◌, ◌+◌, ◌-◌, ◌≤◌, List, ℕ, length, take, drop, min, ap, sym, subst, ◌∙◌, arith, length-take}
use Rattle.std.proofs.lemmas.List.{take_rest}
use Rattle.ff_rec.specs.Block.{IsFieldEnd}
use Rattle.ff_rec.proofs.FieldEnds.{IsFieldEnd-found, IsFieldEnd-all}
use Rattle.ff_rec.proofs.bytes.short.Short.field_end.Goals as goal

pub returns-in-Some-clause-end : goal.returns-in-Some-clause-end
returns-in-Some-clause-end c =
    let d = c.self.inside.bytes in
    let len = c.self.inside.len in
    let start = c.args.start in
    let low : start ≤ len = omega (arith, c.requires, ap length c.self.view_is, length-take len d) in
    let filled : len ≤ length d = omega (arith, c.self.invariant, c.self.told) in
    let all : 31 ≡ length d = omega (arith, c.self.told) in
    let room = ap (λ (n : ℕ). take (n - start) (drop start d)) all ∙ take_rest d start in
    subst (λ (q : List ℕ). IsFieldEnd q start c.min.result) c.self.view_is
    (IsFieldEnd-found d _ len start filled low room c.in-Some.at 16 c.min.result c.in-Some.ensures.0 c.in-Some.ensures.1
    (c.min.ensures ∙ ap (λ (n : ℕ). min n (start + c.in-Some.at)) c.from-len.ensures))

pub returns-in-None-clause-end : goal.returns-in-None-clause-end
returns-in-None-clause-end c =
    let d = c.self.inside.bytes in
    let len = c.self.inside.len in
    let start = c.args.start in
    let low : start ≤ len = omega (arith, c.requires, ap length c.self.view_is, length-take len d) in
    let filled : len ≤ length d = omega (arith, c.self.invariant, c.self.told) in
    let all : 31 ≡ length d = omega (arith, c.self.told) in
    let room = ap (λ (n : ℕ). take (n - start) (drop start d)) all ∙ take_rest d start in
    subst (λ (q : List ℕ). IsFieldEnd q start c.from-len.result) c.self.view_is
    (subst (IsFieldEnd (take len d) start) (sym c.from-len.ensures)
    (IsFieldEnd-all d _ len start filled low room 16 (omega (arith, c.if-start-len.false, c.from-len.ensures)) c.in-None.ensures))
