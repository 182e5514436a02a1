-- The line with the part behind it passes no limit, and nothing is left of it.
use Rattle.std.proofs.Common.{◌≡◌, ◌+◌, ◌++◌, ◌≤◌, length, None, refl, sym, ap, ◌∙◌, subst, arith}
use Rattle.ff_rec.specs.Lines.{tabs}
use Rattle.ff_rec.specs.Pieces.{Lacks}
use Rattle.ff_rec.specs.Reading.{line_fault}
use Rattle.ff_rec.proofs.line_reader.passing.pass_line.Goals as goal

pub returns-clause-ok : goal.returns-clause-ok
returns-clause-ok c =
    let old = c.args.progress.now in
    let is = c.clear.ensures.items in
    let fits : line_fault c.args.limits.line (old.ended + 1) (old.line.items ++ c.args.part.now) ≡ None =
    sym (c.in_default.ensures ∙ ap (λ l. line_fault c.args.limits.line (old.ended + 1) (l ++ c.args.part.now)) c.as_slice.ensures.value) in
    record {
      ready = record {
        room = omega (arith, c.requires.room);
        fewer = omega (arith, c.requires.ready.fewer);
        counted = sym (ap tabs is);
        clean = subst (Lacks 10) (sym is) tt;
        few = omega arith;
        short = subst (λ l. length l ≤ c.args.limits.line) (sym is) (omega arith);
      };
      fits = fits;
      taken = omega arith;
      ended = refl;
      line = is;
    }
