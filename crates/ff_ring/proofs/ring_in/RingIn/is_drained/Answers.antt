use Rattle.std.proofs.Common.{◌≡◌, [], length, deque_items, arith}
use Rattle.std.specs.List.{flat_map}
use Rattle.std.proofs.lemmas.Bool.{false≢true}
use Rattle.std.proofs.lemmas.Bool.Decides.{nat_tests}
use Rattle.rtrb.specs.Ring.{known_items}
use Rattle.ff_ring.specs.Ends.{there_of}
use Rattle.ff_ring.proofs.Endings.{length-front}
use Rattle.ff_ring.proofs.ring_in.RingIn.is_drained.Goals as goal

-- a message is left in the bundle that is open
pub returns-then-not-is_empty-clause-none : goal.returns-then-not-is_empty-clause-none
returns-then-not-is_empty-clause-none g c =
    let inn = c.args.self.now in
    let none : there_of inn ≡ [] → length inn.bundle.items ≡ 0 =
    λ e. length-front inn.bundle.items (flat_map deque_items (known_items inn.inlet.end)) e in
    let some : there_of inn ≡ [] → ⊥ = λ e. grind (arith, nat_tests, none e, c.is_empty.ensures, c.if-not-is_empty.true) in
    (λ never. absurd (false≢true never), λ e. absurd (some e))
