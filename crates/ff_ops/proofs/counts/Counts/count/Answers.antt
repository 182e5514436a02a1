use Rattle.std.proofs.Common.{◌≡◌, Some, Option, IsSome, ℕ, ap, refl, sym, subst, ◌∙◌, arith}
use Rattle.std.proofs.lemmas.Result.{on_ok_weaker}
use Rattle.std.proofs.lemmas.Grind.{common_steps}
use Rattle.ff_ops.specs.Entries.{changed}
use Rattle.ff_ops.specs.EntryLaws.{value_or}
use Rattle.ff_ops.specs.KeyedOps.{counted_more}
use Rattle.ff_ops.specs.Tables.{at_key, by_key}
use Rattle.ff_ops.proofs.TableLaws.{by_key-changed}
use Rattle.ff_ops.proofs.counts.Counts.count.Goals as goal

-- a key that is there
pub returns-in-Some-clause-ok : goal.returns-in-Some-clause-ok
returns-in-Some-clause-ok c =
    let key = c.args.key.now in
    let h = c.get_mut.follows.holds c.saturating_add.result in
    let before : at_key c.self.inside.counts.entries c.args.key.now ≡ Some c.in-Some.count.now = grind (arith, common_steps) in
    let written = h.3 (subst IsSome (sym before) refl) in
    let here : Some c.saturating_add.result ≡ Some (counted_more (value_or 0 (at_key c.self.inside.counts.entries c.args.key.now))) =
    ap (λ (n : ℕ). Some n) c.saturating_add.ensures ∙ ap (λ (o : Option ℕ). Some (counted_more (value_or 0 o))) (sym before) in
    by_key-changed 0 key counted_more c.self.inside.counts.entries (c.get_mut.follows.lender c.saturating_add.result).entries c.get_mut.ensures.unique h.4 (written.1 ∙ here) written.3
    ∙ ap (changed 0 key counted_more) c.self.view_is

-- a new key
pub returns-clause-ok : goal.returns-clause-ok
returns-clause-ok c =
    let same = c.get_mut.follows.holds-at-none in
    on_ok_weaker c.put_new.result (λ h. h 0 counted_more refl ∙ ap (λ m. changed 0 c.args.key.now counted_more (by_key m.entries)) same ∙ ap (changed 0 c.args.key.now counted_more) c.self.view_is) c.put_new.ensures.ok
