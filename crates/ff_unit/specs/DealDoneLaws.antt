-- A deal that ends stays tied to its ports.
use Rattle.std.specs.Prelude.{◌≡◌, Bool, true, false, List}
use Rattle.std.proofs.Common.{sym}
use Rattle.std.proofs.lemmas.Bool.{false≢true}
use Rattle.ff_node.specs.Runs.{Message}
use Rattle.ff_port.specs.declared.answers.End.{End}
use Rattle.ff_port.specs.declared.answers.End.TheVariants.{Eos, Abort, Memory}
use Rattle.ff_unit.specs.Deals.{DealState}
use Rattle.ff_unit.specs.DealPairLaws.{Pair}
use Rattle.ff_unit.specs.DealTiedLaws.{TiedAt}

pub TiedAt-done : (u : DealState) (g : List Message) (ps : List Pair) (live : Bool) (end : End) → live ≡ false → TiedAt live end u g ps → TiedAt live end (record u { done = true }) g ps
TiedAt-done u g ps true end ended t = absurd (false≢true (sym ended))
TiedAt-done u g ps false Eos ended t = record { ms = t.ms; inner = t.inner; is = t.is; picks = t.picks; picked = t.picked; none = t.none; telling = t.telling }
TiedAt-done u g ps false Abort ended t = (
  record {
    picks = t.0.picks;
    xs = t.0.xs;
    more = t.0.more;
    picked = t.0.picked;
    items_are = t.0.items_are;
    none = t.0.none;
    front = t.0.front;
    rest = t.0.rest;
    splits = t.0.splits;
    telling = t.0.telling;
  },
  t.1,
)
TiedAt-done u g ps false Memory ended t = record {
  picks = t.picks;
  xs = t.xs;
  more = t.more;
  picked = t.picked;
  items_are = t.items_are;
  none = t.none;
  front = t.front;
  rest = t.rest;
  splits = t.splits;
  telling = t.telling;
}
