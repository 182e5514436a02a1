use Rattle.std.proofs.Common.{◌≡◌, ◌<◌, ◌+◌, ◌∙◌, ap, refl, length, take, get_or, ℤ, pos, List, arith}
use Rattle.std.proofs.lemmas.Int.{ints}
use Rattle.std.proofs.lemmas.List.{take_all}
use Rattle.ff_dc.specs.Spans.{within}
use Rattle.ff_dc.specs.Values.{loose, Loose}
use Rattle.ff_dc.proofs.Ends.{fours, clip-bits}
use Rattle.ff_dc.proofs.Loosening.{more-open, more-close, more-other}
use Rattle.ff_dc.proofs.PushLaws.{loose-more}
use Rattle.ff_dc.proofs.values.bracket_at_once.Goals as goal
use Rattle.ff_dc.proofs.values.bracket_at_once.Goals.{then-x-eq40, else-x-eq40+then-x-eq41+then-opens-eq0, else-x-eq40+then-x-eq41+else-opens-eq0, else-x-eq40+else-x-eq41}

pub loop-x-preserved : goal.loop-x-preserved
loop-x-preserved c =
    let h : c.loop-x.x-index < length c.numbers_of-xs.result.now = omega arith in
    let l : loose (take (c.loop-x.x-index + 1) c.numbers_of-xs.result.now) ≡ _ = loose-more c.numbers_of-xs.result.now c.loop-x.x-index (pos 0) h in
    elim c.if-x-eq40.branch [
      | then-x-eq40 w ↦
          let m = l ∙ more-open (loose (take c.loop-x.x-index c.numbers_of-xs.result.now)) (get_or c.numbers_of-xs.result.now c.loop-x.x-index (pos 0)) (omega (arith, ints)) in
          record { closes_is = omega (arith, ap (λ (s : Loose). s.0) m); opens_is = omega (arith, ap (λ (s : Loose). s.1) m); few = omega arith }
      | else-x-eq40+then-x-eq41+then-opens-eq0 w ↦
          let m = l ∙ more-close (loose (take c.loop-x.x-index c.numbers_of-xs.result.now)) (get_or c.numbers_of-xs.result.now c.loop-x.x-index (pos 0)) (omega (arith, ints)) in
          record { closes_is = omega (arith, ap (λ (s : Loose). s.0) m); opens_is = omega (arith, ap (λ (s : Loose). s.1) m); few = omega arith }
      | else-x-eq40+then-x-eq41+else-opens-eq0 w ↦
          let m = l ∙ more-close (loose (take c.loop-x.x-index c.numbers_of-xs.result.now)) (get_or c.numbers_of-xs.result.now c.loop-x.x-index (pos 0)) (omega (arith, ints)) in
          record { closes_is = omega (arith, ap (λ (s : Loose). s.0) m); opens_is = omega (arith, ap (λ (s : Loose). s.1) m); few = omega arith }
      | else-x-eq40+else-x-eq41 w ↦
          let m = l ∙ more-other (loose (take c.loop-x.x-index c.numbers_of-xs.result.now)) (get_or c.numbers_of-xs.result.now c.loop-x.x-index (pos 0)) (λ e. omega (arith, ints, e)) (λ e. omega (arith, ints, e)) in
          record { closes_is = omega (arith, ap (λ (s : Loose). s.0) m); opens_is = omega (arith, ap (λ (s : Loose). s.1) m); few = omega arith }
    ]

pub returns : goal.returns
returns c =
    let all : take c.loop-x.x-index c.numbers_of-xs.result.now ≡ within c.args.ns.now c.args.part = take_all c.loop-x.x-index c.numbers_of-xs.result.now (omega arith) ∙ c.numbers_of-xs.ensures in
    c.new.ensures
    ∙ fours
    (clip-bits c.clipped.result _ (pos (loose (within c.args.ns.now c.args.part)).0) c.clipped.ensures.value c.clipped.ensures.within (omega (arith, ints, ap (λ (xs : List ℤ). (loose xs).0) all)))
    (clip-bits c.clipped-2.result _ (pos (loose (within c.args.ns.now c.args.part)).1) c.clipped-2.ensures.value c.clipped-2.ensures.within (omega (arith, ints, ap (λ (xs : List ℤ). (loose xs).1) all)))
    refl refl
