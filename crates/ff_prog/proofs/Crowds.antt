-- Whether the names so far are too many.
use Rattle.std.proofs.Common.{◌≡◌, ◌<◌, ◌≤◌, ℕ, suc, ◌+◌, List, length, true, false, lt-ltb, le-ltb, subst, arith}
use Rattle.std.specs.Borrow.{Bor}
use Rattle.ff_prog.specs.declared.statement.Statement.{Statement}
use Rattle.ff_prog.specs.Known.{HasNames}
use Rattle.ff_prog.specs.Names.{is_crowded, names_until}

pub crowded : (ss : List Statement) (k : ℕ) (keys : List (Bor (List ℕ))) → HasNames keys (names_until ss (suc k)) → 1024 < length keys → is_crowded ss k ≡ true
crowded ss k keys h many = lt-ltb 1024 (length (names_until ss (suc k))) (subst (λ n. 1024 < n) h.many many)

pub roomy : (ss : List Statement) (k : ℕ) (keys : List (Bor (List ℕ))) → HasNames keys (names_until ss (suc k)) → length keys ≤ 1024 → is_crowded ss k ≡ false
roomy ss k keys h few = le-ltb 1024 (length (names_until ss (suc k))) (subst (λ n. n ≤ 1024) h.many few)

-- at the next index as the loop counts it
pub HasNames-next : (ss : List Statement) (k : ℕ) (keys : List (Bor (List ℕ))) → HasNames keys (names_until ss (suc k)) → HasNames keys (names_until ss (k + 1))
HasNames-next ss k keys h = let next : suc k ≡ k + 1 = omega arith in subst (λ j. HasNames keys (names_until ss j)) next h
