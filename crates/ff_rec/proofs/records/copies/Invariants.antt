use Rattle.std.proofs.Common.{◌≡◌, ◌++◌}
use Rattle.std.specs.VecDeque.Iter.{deque_iter_rest}
use Rattle.ff_rec.proofs.records.copies.Given as goal

-- the copies so far, and then what is left
abbrev pub invariant-loop-r : goal.invariant-loop-r
invariant-loop-r l = l.other.items ++ deque_iter_rest l.r-iterator ≡ l.list.items
