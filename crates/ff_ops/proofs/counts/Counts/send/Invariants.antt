use Rattle.std.proofs.Common.{◌≡◌, [], map}
use Rattle.std.specs.List.{AllByRecursion}
use Rattle.std.specs.Map.{keys_of}
use Rattle.ff_rec.specs.Lines.{IsPlain}
use Rattle.ff_node.specs.Sends.{add}
use Rattle.ff_ops.specs.KeyedTakes.{tally_record}
use Rattle.ff_ops.specs.Tables.{read_by}
use Rattle.ff_ops.proofs.counts.Counts.send.Given as goal

-- the records so far, with those of what is left, are all; what is left is plain
abbrev pub invariant-loop-key : goal.invariant-loop-key
invariant-loop-key l =
    (add l.out (map tally_record (read_by (λ k. k.now) l.key-iterator)) [] ≡ add l.fn.out (map tally_record l.fn.self) [])
    × AllByRecursion IsPlain (keys_of (read_by (λ k. k.now) l.key-iterator))
