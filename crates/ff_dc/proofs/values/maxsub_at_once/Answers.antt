use Rattle.std.proofs.Common.{◌≡◌, ◌<◌, ◌∙◌, ap, length, take, pos, arith}
use Rattle.std.proofs.lemmas.Int.{ints, clamps}
use Rattle.std.proofs.lemmas.List.{take_all}
use Rattle.ff_dc.specs.Spans.{within}
use Rattle.ff_dc.specs.Values.{total}
use Rattle.ff_dc.proofs.Ends.{fours, clip-bits}
use Rattle.ff_dc.proofs.Runs.{P, S, M}
use Rattle.ff_dc.proofs.PushLaws.{total-more, P-more, S-more, M-more}
use Rattle.ff_dc.proofs.values.maxsub_at_once.Goals as goal

pub loop-x-preserved : goal.loop-x-preserved
loop-x-preserved c =
    let h : c.loop-x.x-index < length c.numbers_of-xs.result.now = omega arith in
    let t = total-more c.numbers_of-xs.result.now c.loop-x.x-index (pos 0) h in
    let p = P-more c.numbers_of-xs.result.now c.loop-x.x-index (pos 0) h in
    let s = S-more c.numbers_of-xs.result.now c.loop-x.x-index (pos 0) h in
    let m = M-more c.numbers_of-xs.result.now c.loop-x.x-index (pos 0) h in
    record {
      total_is = omega (arith, ints, t);
      prefix_is = omega (arith, ints, clamps, p);
      suffix_is = omega (arith, ints, clamps, s);
      run_is = omega (arith, ints, clamps, m);
      low = omega (arith, ints);
      high = omega (arith, ints);
      suffix_low = omega (arith, ints, clamps);
      suffix_high = omega (arith, ints, clamps);
    }

pub returns : goal.returns
returns c =
    let all : take c.loop-x.x-index c.numbers_of-xs.result.now ≡ within c.args.ns.now c.args.part = take_all c.loop-x.x-index c.numbers_of-xs.result.now (omega arith) ∙ c.numbers_of-xs.ensures in
    c.new.ensures
    ∙ fours
    (clip-bits c.clipped.result _ (total (within c.args.ns.now c.args.part)) c.clipped.ensures.value c.clipped.ensures.within (omega (arith, ints, ap total all)))
    (clip-bits c.clipped-2.result _ (P (within c.args.ns.now c.args.part)) c.clipped-2.ensures.value c.clipped-2.ensures.within (omega (arith, ints, ap P all)))
    (clip-bits c.clipped-3.result _ (S (within c.args.ns.now c.args.part)) c.clipped-3.ensures.value c.clipped-3.ensures.within (omega (arith, ints, ap S all)))
    (clip-bits c.clipped-4.result _ (M (within c.args.ns.now c.args.part)) c.clipped-4.ensures.value c.clipped-4.ensures.within (omega (arith, ints, ap M all)))
