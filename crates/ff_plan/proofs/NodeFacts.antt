-- What the contracts of all nodes give.
use Rattle.ff_node.specs.Behaviour.{Behaviour, KeepsKind}
use Rattle.ff_node.specs.Classes.{ClassLaw}
use Rattle.ff_node.specs.CombLaws.{comb-is_pipeline}
use Rattle.ff_node.specs.OnListsLaws.{plain_goes_by_records, unordered_goes_by_counts, keyed_goes_by_keys}
use Rattle.ff_plan.proofs.NetLaws.{AreNodes}

pub are_nodes : {N : Type 0} (b : Behaviour N) → KeepsKind b → ((o : N) → ClassLaw b o (b.class o)) → AreNodes b
are_nodes b keeps law = record {
  keeps = keeps;
  combed = comb-is_pipeline b;
  by_records = plain_goes_by_records b law;
  by_counts = unordered_goes_by_counts b law;
  by_keys = keyed_goes_by_keys b law;
  law = law;
}
