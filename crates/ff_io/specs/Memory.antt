-- Sources and sinks in memory, of which every answer is known.
use Rattle.std.specs.Prelude.{◌≡◌, ℕ, ◌+◌, ◌-◌, ◌==◌, nat_lt, min, Bool, true, false, ◌||◌, List, [], ◌++◌, length, take, drop, Result, Ok, Err}
use Rattle.std.specs.List.{list_any}
use Rattle.ff_io.specs.Faults.{more}
use Rattle.ff_io.specs.declared.outside.Failed.{Failed}

-- a source in memory: the bytes left, the most that a call gives, the numbers of the calls that fail, and the calls and faults so far
pub record Feed : Type 0 where
  pub bytes : List ℕ
  pub most : ℕ
  pub fail : List ℕ
  pub calls : ℕ
  pub faults : ℕ
  pub ended : Bool

-- whether the next call is one that fails
abbrev pub fails_next : List ℕ → ℕ → Bool
fails_next fail calls = list_any (λ k. k == more calls) fail

-- how many bytes the next call gives into room for so many
abbrev pub portion : Feed → ℕ → ℕ
portion s room = min (length s.bytes) (min s.most room)

-- the source after a call that gave so many bytes
abbrev pub fed : Feed → ℕ → Feed
fed s n = record { bytes = drop n s.bytes; most = s.most; fail = s.fail; calls = more s.calls; faults = s.faults; ended = n == 0 }

-- the source after a call that failed
abbrev pub feed_failed : Feed → Feed
feed_failed s = record { bytes = s.bytes; most = s.most; fail = s.fail; calls = more s.calls; faults = more s.faults; ended = false }

-- what a call with room for so many bytes answers and leaves, and the bytes at the front of its buffer
abbrev pub FeedGives : Feed → Result ℕ Failed → List ℕ → Feed → Type 0
FeedGives s (Ok n) buf t = (fails_next s.fail s.calls ≡ false) × (n ≡ portion s (length buf)) × (take n buf ≡ take n s.bytes) × (t ≡ fed s n)
FeedGives s (Err e) buf t = (fails_next s.fail s.calls ≡ true) × (t ≡ feed_failed s)

-- a sink in memory: the bytes taken, how many it takes in all, the numbers of the calls that fail, and the calls and faults so far
pub record Tray : Type 0 where
  pub bytes : List ℕ
  pub budget : ℕ
  pub fail : List ℕ
  pub calls : ℕ
  pub faults : ℕ

-- whether the next call fails: it is one of those that do, or the budget is used up
abbrev pub refuses_next : Tray → Bool
refuses_next s = fails_next s.fail s.calls || nat_lt s.budget (length s.bytes + 1)

-- what a call with this piece answers and leaves
abbrev pub TrayTakes : Tray → Result ℕ Failed → List ℕ → Tray → Type 0
TrayTakes s (Ok n) piece t =
    (refuses_next s ≡ false) × (n ≡ min (length piece) (s.budget - length s.bytes))
    × (t ≡ record { bytes = s.bytes ++ take n piece; budget = s.budget; fail = s.fail; calls = more s.calls; faults = s.faults })
TrayTakes s (Err e) piece t =
    (refuses_next s ≡ true)
    × (t ≡ record { bytes = s.bytes; budget = s.budget; fail = s.fail; calls = more s.calls; faults = more s.faults })

-- a source of these bytes, before its first call
abbrev pub opened_feed : List ℕ → ℕ → List ℕ → Feed
opened_feed bytes most fail = record { bytes = bytes; most = most; fail = fail; calls = 0; faults = 0; ended = false }

-- a sink that took nothing, before its first call
abbrev pub opened_tray : ℕ → List ℕ → Tray
opened_tray budget fail = record { bytes = []; budget = budget; fail = fail; calls = 0; faults = 0 }
