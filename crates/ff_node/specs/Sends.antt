-- What a node's calls gather: the records sent, and those rejected.
use Rattle.std.specs.Prelude.{◌≡◌, ℕ, ◌≤◌, Bool, true, false, List, [], ◌∷◌, ◌++◌, drop, length, Option, None, Some}
use Rattle.std.specs.Borrow.{Bor}
use Rattle.ff_rec.specs.Lines.{Rec}
pub use Rattle.ff_rec.specs.Counts.{count_more, counted}

-- the records sent and not taken yet, the number of rejects, whether rejects are kept, and those kept and not taken yet
pub record Sent : Type 0 where
  pub sends : List Rec
  pub rejects : ℕ
  pub keeps : Bool
  pub kept : List Rec

-- the records that are kept
abbrev pub kept_of : Bool → List Rec → List Rec
kept_of true xs = xs
kept_of false xs = []

-- after these sends and these rejects
abbrev pub add : Sent → List Rec → List Rec → Sent
add s sends rejects =
    record { sends = s.sends ++ sends; rejects = count_more s.rejects rejects; keeps = s.keeps; kept = s.kept ++ kept_of s.keeps rejects }

-- all sends were taken out, and the rejects are as they were
abbrev pub rejects_alone : Sent → Sent
rejects_alone s = record s { sends = [] }

-- these stand in front of what was sent
abbrev pub sent_before : List Rec → Sent → Sent
sent_before xs s = record s { sends = xs ++ s.sends }

-- nothing sent and nothing rejected
abbrev pub nothing_sent : Bool → Sent
nothing_sent keeps = record { sends = []; rejects = 0; keeps = keeps; kept = [] }

-- the number counts the kept rejects and those that were taken out; where none is kept, none is held
pub record IsCounted (s : Sent) : Type 0 where
  pub counts : length s.kept ≤ s.rejects
  pub none : s.keeps ≡ false → s.kept ≡ []

-- the first send is seen where it stands, or there is none
abbrev pub IsFirst : Sent → Option (Bor Rec) → Type 0
IsFirst s None = s.sends ≡ []
IsFirst s (Some x) = s.sends ≡ x.now ∷ drop 1 s.sends

-- the first send is taken, or there was none
abbrev pub TakesSend : Sent → Option Rec → Sent → Type 0
TakesSend s None t = (s.sends ≡ []) × (t ≡ s)
TakesSend s (Some x) t = s ≡ record t { sends = x ∷ t.sends }

-- the first kept reject is taken, or there was none; the number stays
abbrev pub TakesReject : Sent → Option Rec → Sent → Type 0
TakesReject s None t = (s.kept ≡ []) × (t ≡ s)
TakesReject s (Some x) t = s ≡ record t { kept = x ∷ t.kept }
