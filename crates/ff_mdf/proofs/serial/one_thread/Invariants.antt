use Rattle.std.proofs.Common.{◌≡◌, length, map, take}
use Rattle.ff_mdf.specs.Stores.{after, valued}
use Rattle.ff_mdf.proofs.serial.one_thread.Given as goal

-- the entries of the names so far
abbrev pub invariant-loop-k : goal.invariant-loop-k
invariant-loop-k l = l.store ≡ map (valued (after l.program (length l.program))) (take l.k l.names)
