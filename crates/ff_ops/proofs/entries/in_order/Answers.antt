use Rattle.std.proofs.Common.{◌≡◌, ◌∷◌, ap, sym, ◌∙◌}
use Rattle.std.specs.List.{fold}
use Rattle.std.specs.Map.Iter.{deref_pair}
use Rattle.std.proofs.lemmas.Map.Iter.{rest_more}
use Rattle.ff_ops.specs.Tables.{put, read_by}
use Rattle.ff_ops.proofs.TableLaws.{fold-inserted}
use Rattle.ff_ops.proofs.entries.in_order.Goals as goal

pub loop-key-preserved : goal.loop-key-preserved
loop-key-preserved g c =
    let key = c.in-Some.key.now.items in
    let value = c.in-Some.value.now in
    let before = c.loop-key.sorted.entries in
    let rest = read_by (λ k. k.items) c.next.new.self in
    let next : c.loop-key.key-iterator ≡ deref_pair (c.in-Some.key, c.in-Some.value) ∷ c.next.new.self =
    rest_more deref_pair c.loop-key.key-iterator c.next.new.self c.next.result (c.in-Some.key, c.in-Some.value) c.in-Some.is c.next.ensures.steps in
    fold-inserted (λ k. k.now) before c.insert.new.self.entries c.as_slice.result value rest c.in_ok-insert.ensures.entries
    ∙ ap (λ k. fold put (put (read_by (λ k. k.now) before) (k, value)) rest) c.as_slice.ensures.value
    ∙ ap (λ it. fold put (read_by (λ k. k.now) before) (read_by (λ k. k.items) it)) (sym next)
    ∙ c.loop-key.invariant
