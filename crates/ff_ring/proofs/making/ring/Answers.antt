use Rattle.std.proofs.Common.{◌≡◌, ◌+◌, ◌-◌, min, rules, arith, length}
use Rattle.rtrb.specs.Ring.{known_free, known_items, producer_capacity}
use Rattle.ff_ring.specs.Sizes.{bundle_count}
use Rattle.ff_ring.specs.Ends.{room_of}
use Rattle.ff_ring.proofs.Counts.{bundle_count-from_one, bundle_count-from_two}
use Rattle.ff_ring.proofs.making.ring.Goals as goal

pub returns-clause-made : goal.returns-clause-made
returns-clause-made g c =
    let free : known_free c.in_ok-end.end ≡ bundle_count c.args.cap = search rules in
    let blocks : length (known_items c.in_ok-giving.spares) ≡ bundle_count c.args.cap = search rules in
    let slots : producer_capacity c.in_ok-end.end ≡ bundle_count c.args.cap = search rules in
    let room : room_of c.new-out.result ≡ bundle_count c.args.cap + min 1 (bundle_count c.args.cap - 1) =
    omega (arith, c.new-out.ensures.room, free, blocks, slots) in
    record {
      size = search rules;
      count = search rules;
      some = omega (arith, room, bundle_count-from_one c.args.cap c.requires.some);
      more = λ h. (bundle_count-from_two c.args.cap h, omega (arith, room, bundle_count-from_two c.args.cap h));
    }
