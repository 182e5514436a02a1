-- What a worker sends, sorted: what meets a test goes round, and the rest comes out.
use Rattle.std.specs.Prelude.{◌≡◌, ◌+◌, ◌<◌, Bool, true, false, not, List, [], ◌++◌, length}
use Rattle.std.specs.List.{filter}
use Rattle.ff_rec.specs.Lines.{Rec}
use Rattle.ff_node.specs.Sends.{Sent}
use Rattle.ff_net.specs.declared.tasks.Tasks.{Tasks}

-- from `x` to `y` the new tasks and the results among these were added, and the tasks took their room
pub record Sorts (round : Rec → Bool) (sends : List Rec) (x y : Tasks) : Type 0 where
  pub next : y.next ≡ x.next ++ filter round sends
  pub results : y.results ≡ x.results ++ filter (λ r. not (round r)) sends
  pub room : y.room + length (filter round sends) ≡ x.room

-- all that was sent was taken out and sorted, or there isn't room for all of it
abbrev pub HasSorted : (Rec → Bool) → Tasks → Tasks → Sent → Sent → Bool → Type 0
HasSorted round x y before after true = Sorts round before.sends x y × (after ≡ record before { sends = [] })
HasSorted round x y before after false = x.room < length (filter round before.sends)
