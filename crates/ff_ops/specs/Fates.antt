-- What becomes of a record that an operation takes.
use Rattle.std.specs.Prelude.{◌≡◌, Bool, true, false, List, [], ◌∷◌, Option, None, Some}
use Rattle.ff_rec.specs.Lines.{Rec}
use Rattle.ff_node.specs.Sends.{Sent, add}
use Rattle.ff_ops.specs.Answered.{answered}
use Rattle.ff_ops.specs.declared.fate.Fate.{Fate}
use Rattle.ff_ops.specs.declared.fate.Fate.TheVariants.{Sent as IsSent, Dropped, Rejected}

-- what is gathered once the record was sent, let go or rejected
abbrev pub settled : Fate → Sent → Rec → Sent
settled IsSent before r = add before (r ∷ []) []
settled Dropped before r = add before [] []
settled Rejected before r = add before [] (r ∷ [])

-- it is sent where it passes, and rejected where that can't be told
abbrev pub fate_of : Option Bool → Fate
fate_of (Some true) = IsSent
fate_of (Some false) = Dropped
fate_of None = Rejected

-- with this fate of the record as it is now, what is gathered is the answer for the record as it came
abbrev pub Answers : Fate → Option (List Rec) → Rec → Rec → Type 0
Answers fate answer came now = (before : Sent) → settled fate before now ≡ answered before answer came
