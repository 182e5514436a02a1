use Rattle.std.proofs.Common.{◌≡◌, [], map, ap, sym, subst, ◌∙◌}
use Rattle.std.specs.List.{AllByRecursion}
use Rattle.std.specs.Map.{keys_of}
use Rattle.ff_rec.specs.Lines.{IsPlain}
use Rattle.ff_node.specs.Sends.{add}
use Rattle.ff_ops.specs.KeyedTakes.{tally_record}
use Rattle.ff_ops.specs.Tables.{by_key, read_by}
use Rattle.ff_ops.proofs.TableLaws.{by_key-plain}
use Rattle.ff_ops.proofs.counts.Counts.send.Goals as goal

pub loop-key-init : goal.loop-key-init
loop-key-init c =
    let sorted : read_by (λ k. k.now) c.into_iter-key-iterator.result ≡ by_key c.self.inside.counts.entries =
    ap (read_by (λ k. k.now)) c.into_iter-key-iterator.ensures.into_iter_gives.0 ∙ c.in_ok-items.ensures in (
      ap (λ es. add c.args.out.now (map tally_record es) []) (sorted ∙ c.self.view_is),
      subst (λ es. AllByRecursion IsPlain (keys_of es)) (sym sorted) (by_key-plain c.self.inside.counts.entries c.self.invariant),
    )
