use Rattle.std.proofs.Common.{◌≡◌, ◌<◌, ◌∙◌, ap, sym, refl, length, take, get_or, ℕ, ℤ, pos, List, arith}
use Rattle.std.proofs.lemmas.Int.{ints}
use Rattle.std.proofs.lemmas.List.{take_all, take_more, length-take-le}
use Rattle.ff_dc.specs.Rules.{firstmin_of}
use Rattle.ff_dc.proofs.Ends.{fours}
use Rattle.ff_dc.proofs.Firsts.{firstmin-push}
use Rattle.ff_dc.proofs.values.firstmin_at_once.Goals as goal

pub loop-k-init : goal.loop-k-init
loop-k-init c = c.new-found.ensures

pub loop-k-preserved : goal.loop-k-preserved
loop-k-preserved c =
    let h : c.loop-k.k < length c.numbers_of-xs.result.now = omega arith in
    let lo : c.part.inside.lo ≡ c.args.part.0 = ap (λ (p : ℕ × ℕ). p.0) c.part.view_is in
    c.first_least-found.ensures
    ∙ firstmin-push c.args.part.0 c.loop-k.k (take c.loop-k.k c.numbers_of-xs.result.now) (get_or c.numbers_of-xs.result.now c.loop-k.k (pos 0)) c.loop-k.found c.new-one.result
    (length-take-le c.loop-k.k c.numbers_of-xs.result.now (omega arith))
    c.loop-k.invariant
    (c.new-one.ensures ∙ fours (omega (arith, ints)) (omega (arith, ints, lo)) refl refl)
    ∙ ap (λ (xs : List ℤ). firstmin_of c.args.part.0 xs) (sym (take_more c.numbers_of-xs.result.now c.loop-k.k (pos 0) h))

pub returns : goal.returns
returns c =
    c.loop-k.invariant
    ∙ ap (λ (xs : List ℤ). firstmin_of c.args.part.0 xs) (take_all c.loop-k.k c.numbers_of-xs.result.now (omega arith) ∙ c.numbers_of-xs.ensures)
