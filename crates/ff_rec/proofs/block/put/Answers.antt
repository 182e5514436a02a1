-- Other bytes in the place of a piece change just that piece.
use Rattle.std.proofs.Common.{ap, ◌∙◌}
use Rattle.std.proofs.lemmas.Result.{on_ok_weaker}
use Rattle.ff_rec.specs.Lines.{cut}
use Rattle.ff_rec.specs.Stored.{Stored}
use Rattle.ff_rec.proofs.Places.{cut-replaced, IsBlock-put}
use Rattle.ff_rec.proofs.block.put.Goals as goal

pub returns : goal.returns
returns c =
    let old = c.args.block.now in
    let by = c.args.by.now in
    let changed =
    cut-replaced old.items c.args.k c.place-start.result.0 c.place-start.result.1 by c.place-start.ensures c.requires.there c.requires.plain in
    record {
      ok = on_ok_weaker c.replace.result (λ e. ap (λ (b : Stored). cut 9 b.items) e ∙ changed) c.replace.ensures.ok;
      err = c.replace.ensures.err;
      kept = λ h. IsBlock-put c.replace.result old c.replace.new.self _ c.args.k by h c.requires.plain changed c.replace.ensures.ok c.replace.ensures.err;
    }
