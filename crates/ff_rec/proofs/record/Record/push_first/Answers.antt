-- A plain field before a tab is a first field.
use Rattle.std.proofs.Common.{◌≡◌, List, ℕ, ◌+◌, ◌<◌, ◌∷◌, ◌++◌, sym, subst, ap, ap₂, ◌∙◌, arith}
use Rattle.ff_rec.specs.Lines.{cut}
use Rattle.ff_rec.specs.Block.{IsBlock}
use Rattle.ff_rec.specs.Stored.{Stored, stored_as}
use Rattle.ff_rec.proofs.Edits.{cut-pushed_front, IsBlock-push_front}
use Rattle.ff_rec.proofs.record.Record.push_first.Goals as goal

pub invariant_of-self : goal.invariant_of-self
invariant_of-self c =
    let old = c.self.inside.block in
    let f = c.bytes.result.now in
    let room : old.count < 64 = omega (arith, c.self.invariant.counted, c.self.invariant.few, c.count-count.ensures) in
    let is : c.set_count.new.self ≡ stored_as (f ++ 9 ∷ old.items) (old.count + 1) =
    c.set_count.ensures ∙ ap₂ (λ (b : Stored) (n : ℕ). stored_as b.items (n + 1)) c.in-Ok.ensures.ok c.count-count.ensures in
    subst (λ (b : Stored). IsBlock b.items b.count) (sym is) (IsBlock-push_front f old.items old.count c.self.invariant room c.bytes.ensures.plain)

pub returns-in-Ok-clause-ok : goal.returns-in-Ok-clause-ok
returns-in-Ok-clause-ok c =
    ap (λ (b : Stored). cut 9 b.items) c.set_count.ensures
    ∙ ap (λ (b : Stored). cut 9 b.items) c.in-Ok.ensures.ok ∙ cut-pushed_front c.bytes.result.now c.self.inside.block.items c.bytes.ensures.plain
    ∙ ap₂ (λ (f : List ℕ) (r : List (List ℕ)). f ∷ r) c.bytes.ensures.bytes c.self.view_is
