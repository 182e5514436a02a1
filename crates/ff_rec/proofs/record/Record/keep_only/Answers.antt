-- The bytes of a field are one field.
use Rattle.std.proofs.Common.{List, ℕ, ◌-◌, ◌<◌, ◌∷◌, [], length, get_or, sym, subst, ap, ◌∙◌, arith}
use Rattle.ff_rec.specs.Lines.{IsPlain, cut}
use Rattle.ff_rec.specs.Block.{IsBlock}
use Rattle.ff_rec.specs.Stored.{Stored, stored_as}
use Rattle.ff_rec.proofs.Joins.{cut-IsPlain}
use Rattle.ff_rec.proofs.Places.{IsBlock-field}
use Rattle.ff_rec.proofs.Edits.{AllByRecursion-get_or}
use Rattle.ff_rec.proofs.record.Record.keep_only.Goals as goal

pub invariant_of-self : goal.invariant_of-self
invariant_of-self c =
    let ps = cut 9 c.self.inside.block.items in
    let below : c.args.k - 1 < length ps = omega (arith, c.requires.low, c.requires.high, ap length c.self.view_is) in
    subst (λ (b : Stored). IsBlock b.items b.count) (sym (c.set_count.ensures ∙ ap (λ (b : Stored). stored_as b.items 1) c.keep.ensures))
    (IsBlock-field (get_or ps (c.args.k - 1) []) (AllByRecursion-get_or IsPlain ps (c.args.k - 1) [] below c.self.invariant.plain))

pub returns : goal.returns
returns c =
    let ps = cut 9 c.self.inside.block.items in
    let below : c.args.k - 1 < length ps = omega (arith, c.requires.low, c.requires.high, ap length c.self.view_is) in
    ap (λ (b : Stored). cut 9 b.items) (c.set_count.ensures ∙ ap (λ (b : Stored). stored_as b.items 1) c.keep.ensures)
    ∙ cut-IsPlain (get_or ps (c.args.k - 1) []) (AllByRecursion-get_or IsPlain ps (c.args.k - 1) [] below c.self.invariant.plain)
    ∙ ap (λ (r : List (List ℕ)). get_or r (c.args.k - 1) [] ∷ []) c.self.view_is
