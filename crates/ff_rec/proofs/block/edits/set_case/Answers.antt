-- A field stays plain, and stands where it stood.
use Rattle.std.proofs.Common.{◌≡◌, List, ℕ, [], get_or, sym, subst, ap, ◌∙◌}
use Rattle.ff_rec.specs.Block.{IsBlock, replaced}
use Rattle.ff_rec.specs.Cases.{in_case}
use Rattle.ff_rec.specs.Lines.{IsPlain, cut}
use Rattle.ff_rec.specs.Stored.{Stored, stored_as}
use Rattle.ff_rec.proofs.Cases.{IsPlain-in_case}
use Rattle.ff_rec.proofs.Edits.{AllByRecursion-get_or}
use Rattle.ff_rec.proofs.Places.{cut-replaced, IsBlock-set}
use Rattle.ff_rec.proofs.block.edits.set_case.Goals as goal

pub returns : goal.returns
returns c =
    let old = c.args.block.now in
    let k = c.args.k in
    let field = get_or (cut 9 old.items) k [] in
    let by = in_case c.args.case field in
    let plain : IsPlain by = IsPlain-in_case c.args.case field (AllByRecursion-get_or IsPlain (cut 9 old.items) k [] c.requires.there c.requires.block.plain) in
    let start = c.place-start.result.0 in
    let end = c.place-start.result.1 in
    let is : c.set_case.new.self ≡ stored_as (replaced old.items start end by) old.count =
    c.set_case.ensures ∙ ap (λ (q : List ℕ). stored_as (replaced old.items start end (in_case c.args.case q)) old.count) c.place-start.ensures.here in
    let changed = cut-replaced old.items k start end by c.place-start.ensures c.requires.there plain in
    record {
      fields = ap (λ (b : Stored). cut 9 b.items) is ∙ changed;
      block = subst (λ (b : Stored). IsBlock b.items b.count) (sym is) (IsBlock-set old.items (replaced old.items start end by) old.count k by c.requires.block changed plain);
    }
