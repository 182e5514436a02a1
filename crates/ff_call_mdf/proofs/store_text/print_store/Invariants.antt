use Rattle.std.proofs.Common.{◌≡◌, ◌++◌, take}
use Rattle.ff_call_mdf.specs.StoreText.{store_text}
use Rattle.ff_call_mdf.proofs.store_text.print_store.Given as goal

-- the lines of the names so far were appended
abbrev pub invariant-loop-k : goal.invariant-loop-k
invariant-loop-k l = l.into.items ≡ l.initial.into.items ++ store_text (take l.k l.store)
