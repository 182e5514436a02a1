use Rattle.std.proofs.Common.{◌≡◌, drop}
use Rattle.ff_node.specs.Picks.{hash_from}
use Rattle.ff_unit.proofs.keys.key_place.Given as goal

-- the hash so far goes on to that of all bytes
abbrev pub invariant-loop-byte : goal.invariant-loop-byte
invariant-loop-byte l = hash_from l.hash (drop l.byte-index l.bytes) ≡ hash_from 0 l.bytes
