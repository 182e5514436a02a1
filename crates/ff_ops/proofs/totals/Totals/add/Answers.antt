use Rattle.std.proofs.Common.{◌≡◌, Some, Option, IsSome, ℕ, ap, refl, sym, subst, ◌∙◌, arith}
use Rattle.std.proofs.lemmas.Result.{on_ok_weaker}
use Rattle.std.proofs.lemmas.Grind.{common_steps}
use Rattle.ff_ops.specs.Entries.{changed}
use Rattle.ff_ops.specs.EntryLaws.{value_or}
use Rattle.ff_ops.specs.KeyedOps.{summed}
use Rattle.ff_ops.specs.Tables.{at_key, by_key}
use Rattle.ff_ops.proofs.TableLaws.{by_key-changed}
use Rattle.ff_ops.proofs.totals.Totals.add.Goals as goal

-- a key that is there
pub returns-in-Some-clause-ok : goal.returns-in-Some-clause-ok
returns-in-Some-clause-ok c =
    let key = c.args.key.now in
    let h = c.get_mut.follows.holds c.sums_with.result in
    let before : at_key c.self.inside.sums.entries c.args.key.now ≡ Some c.in-Some.sums.now = grind (arith, common_steps) in
    let written = h.3 (subst IsSome (sym before) refl) in
    let sums : c.sums_with.result ≡ summed c.args.x c.in-Some.sums.now = grind (arith, common_steps) in
    let here : Some c.sums_with.result ≡ Some (summed c.args.x (value_or (0, 0) (at_key c.self.inside.sums.entries c.args.key.now))) =
    ap (λ (s : ℕ × ℕ). Some s) sums ∙ ap (λ (o : Option (ℕ × ℕ)). Some (summed c.args.x (value_or (0, 0) o))) (sym before) in
    by_key-changed (0, 0) key (summed c.args.x) c.self.inside.sums.entries (c.get_mut.follows.lender c.sums_with.result).entries c.get_mut.ensures.unique h.4 (written.1 ∙ here) written.3
    ∙ ap (changed (0, 0) key (summed c.args.x)) c.self.view_is

-- a new key
pub returns-clause-ok : goal.returns-clause-ok
returns-clause-ok c =
    let same = c.get_mut.follows.holds-at-none in
    let sums : c.sums_with-2.result ≡ summed c.args.x (0, 0) = grind (arith, common_steps) in
    on_ok_weaker c.put_new.result
    (λ h.
    h (0, 0) (summed c.args.x) (sym sums)
    ∙ ap (λ m. changed (0, 0) c.args.key.now (summed c.args.x) (by_key m.entries)) same
    ∙ ap (changed (0, 0) c.args.key.now (summed c.args.x)) c.self.view_is)
    c.put_new.ensures.ok
