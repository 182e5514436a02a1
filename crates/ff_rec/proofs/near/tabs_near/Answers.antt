-- The mask of tabs, cut to the first `len` bits, has as many ones as there are tabs.
use Rattle.std.proofs.Common.{◌≡◌, ◌*◌, ◌%◌, ◌^◌, take, ap, ◌∙◌, arith}
use Rattle.std.proofs.lemmas.List.{take-take, length-take-le}
use Rattle.std.specs.Int.RustNames.{count_ones}
use lib.Lanes.{chunk}
use lib.Pow.{shl_exact}
use Rattle.ff_rec.specs.Lines.{tabs}
use Rattle.ff_rec.proofs.Masks.{compared-is, ones-first_tabs}
use Rattle.ff_rec.proofs.TabCounts.{tabs-le-length}
use Rattle.ff_rec.proofs.near.tabs_near.Goals as goal

pub returns : goal.returns
returns c =
    let n = c.args.len in
    let text = c.args.text.now in
    let mask = compared-is 9 text 32 c.requires.within (omega arith) in
    let shift : 1 * 2 ^ n % 2 ^ 64 ≡ 2 ^ n = shl_exact {a = 1} 1 n 64 (omega arith) (omega arith) ∙ omega arith in
    let count =
    (λ i. count_ones (mask i % shift i)) ∙ ones-first_tabs (chunk 0 32 text) n ∙ ap tabs (take-take n 32 text c.requires.near) in
    record {
      count = count;
      few = omega (arith, count, tabs-le-length (take n text), length-take-le n text (omega (arith, c.requires.near, c.requires.within)), c.requires.near);
    }
