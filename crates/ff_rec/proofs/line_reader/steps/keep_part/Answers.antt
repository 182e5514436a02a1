-- The line with the part behind it passes no limit.
use Rattle.std.proofs.Common.{◌≡◌, ◌+◌, ◌++◌, ◌≤◌, length, None, sym, ap, ap₂, ◌∙◌, subst, refl, arith}
use Rattle.ff_rec.specs.Lines.{tabs}
use Rattle.ff_rec.specs.Pieces.{Lacks}
use Rattle.ff_rec.specs.Reading.{line_fault}
use Rattle.ff_rec.proofs.LineLimits.{tabs-append, IsWithin-none, Lacks-append}
use Rattle.ff_rec.proofs.line_reader.steps.keep_part.Goals as goal

pub returns-in-Ok-clause-ok : goal.returns-in-Ok-clause-ok
returns-in-Ok-clause-ok c =
    let old = c.args.progress.now in
    let all = old.line.items ++ c.args.part.now in
    let fits : line_fault c.args.limits.line (old.ended + 1) all ≡ None =
    sym (c.in_default.ensures ∙ ap (λ l. line_fault c.args.limits.line (old.ended + 1) (l ++ c.args.part.now)) c.as_slice.ensures.value) in
    let within = IsWithin-none c.args.limits.line (old.ended + 1) all fits in
    let is = c.in-Ok.ensures.items in
    record {
      ready = record {
        room = c.requires.room;
        fewer = omega (arith, c.requires.ready.fewer);
        counted = ap₂ ◌+◌ c.requires.ready.counted c.count_tabs.ensures.count ∙ sym (tabs-append old.line.items c.args.part.now) ∙ ap tabs (sym is);
        clean = subst (Lacks 10) (sym is) (Lacks-append 10 old.line.items c.args.part.now c.requires.ready.clean c.requires.clean);
        few = omega (arith, within.few, tabs-append old.line.items c.args.part.now, c.requires.ready.counted, c.count_tabs.ensures.count);
        short = subst (λ l. length l ≤ c.args.limits.line) (sym is) within.short;
      };
      fits = fits;
      taken = refl;
      ended = refl;
      line = is;
    }
