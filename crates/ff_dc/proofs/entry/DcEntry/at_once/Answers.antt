use Rattle.std.proofs.Common.{List, ℤ, ap, ◌∙◌}
use Rattle.ff_dc.specs.Rules.{value}
use Rattle.ff_dc.proofs.entry.DcEntry.at_once.Goals as goal

pub returns : goal.returns
returns g c =
    (c.args.self.now.seq_keeps c.as_slice-ns.result c.args.part c.as_slice-ns.ensures.numbers c.slices_are_short.ensures c.parts_are_spans.ensures).1
    c.seq.result c.seq.ensures.0
    ∙ ap (λ (ns : List ℤ). value c.args.self.now.rule ns c.args.part) c.as_slice-ns.ensures.same

pub seq-requires : goal.seq-requires
seq-requires g c κs = (
  (tt, (tt, (tt, tt))),
  (tt, (c.args.self.now.seq_keeps c.as_slice-ns.result c.args.part c.as_slice-ns.ensures.numbers c.slices_are_short.ensures c.parts_are_spans.ensures).0),
)
