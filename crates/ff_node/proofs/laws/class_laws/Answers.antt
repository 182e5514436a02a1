use Rattle.ff_node.specs.OnListsLaws.{plain_goes_by_records, unordered_goes_by_counts, keyed_goes_by_keys}
use Rattle.ff_node.proofs.laws.class_laws.Goals as goal

pub returns : goal.returns
returns g c = record {
  plain = plain_goes_by_records g.N.Node.does g.met.N.Node.class_law;
  unordered = unordered_goes_by_counts g.N.Node.does g.met.N.Node.class_law;
  keyed = keyed_goes_by_keys g.N.Node.does g.met.N.Node.class_law;
}
