-- How often a thread looks on behind its longest spins.
use Rattle.std.specs.Prelude.{ℕ, ◌+◌, ◌*◌, ◌-◌, ◌==◌, min, nat_lt, if◌then◌else◌}

-- how often in one wait at most, how often it still may in this one, how many waits go by without
-- behind one in which it found nothing, and how many of these are to come
pub record LooksState : Type 0 where
  pub most : ℕ
  pub left : ℕ
  pub gap : ℕ
  pub without : ℕ

-- nothing was waited for yet
abbrev pub fresh_looks : ℕ → LooksState
fresh_looks most = record { most = most; left = most; gap = 0; without = 0 }

-- the thread looked once more, if it still might
abbrev pub looked : LooksState → LooksState
looked l = record { most = l.most; left = l.left - 1; gap = l.gap; without = l.without }

-- how many waits go by without from now on: none where something came while it looked on, and else
-- one more than twice as many as the time before, 63 at most
abbrev pub gap_behind : LooksState → ℕ
gap_behind l = if nat_lt 0 l.left then 0 else min 63 (2 * l.gap + 1)

-- how many of these are to come
abbrev pub without_behind : LooksState → ℕ
without_behind l = if nat_lt 0 l.without then l.without - 1 else gap_behind l

-- something was done, behind a wait in which the thread spun as long as it may
abbrev pub renewed_looks : LooksState → LooksState
renewed_looks l = record {
  most = l.most;
  left = if without_behind l == 0 then l.most else 0;
  gap = if nat_lt 0 l.without then l.gap else gap_behind l;
  without = without_behind l;
}
