-- The forms round one another, and the depth.
use Rattle.std.specs.Prelude.{ℕ, suc, ◌≤◌, ◌↔◌}
use Rattle.ff_ops.specs.Operation.{OpState}
use Rattle.ff_net.specs.Tree.{Tree}
use Rattle.ff_net.specs.Counts.{depth}
use Rattle.ff_text.specs.Grammar.{IsNet}

-- what a text can spell has at most so many forms round one another just where its depth is at most one more
abbrev pub RoomIsDepth : Type 0
RoomIsDepth = (t : Tree OpState) (enough room : ℕ) → IsNet t enough → IsNet t room ↔ (depth t ≤ suc room)
