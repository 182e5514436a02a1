use Rattle.std.proofs.Common.{ap, sym, subst, ◌∙◌}
use Rattle.ff_rec.specs.Lines.{IsPlain}
use Rattle.ff_ops.specs.Tables.{by_key, at_key, IsNewAt}
use Rattle.ff_ops.proofs.TableLaws.{IsNewAt-put, ArePlain-put}
use Rattle.ff_ops.proofs.entries.put_new.Goals as goal

pub returns-clause-ok : goal.returns-clause-ok
returns-clause-ok g c =
    let rows = c.args.values.now.entries in
    let after = c.insert.new.self.entries in
    let key = c.in_ok-key.key.items in
    let same = c.in_ok-key.ensures.items in
    let h = c.in_ok-insert.ensures in
    subst (λ k. IsNewAt (by_key rows) k c.args.value (by_key after)) same
    (IsNewAt-put key c.args.value rows after c.requires.apart h.unique (ap (at_key rows) same ∙ c.requires.new) h.updates.1 h.updates.3)

pub returns-clause-all_plain : goal.returns-clause-all_plain
returns-clause-all_plain g c =
    let h = c.in_ok-insert.ensures in
    let same = c.in_ok-key.ensures.items in
    ArePlain-put c.in_ok-key.key c.args.value c.args.values.now c.insert.new.self c.in_ok-insert.field-0
    (h.old ∙ ap (at_key c.args.values.now.entries) same ∙ c.requires.new)
    h.entries
    (subst IsPlain (sym same) c.requires.plain)
    c.requires.all_plain
