-- The steps of a wrap: what becomes of a whole level.
use Rattle.std.specs.Prelude.{◌≡◌, ◌+◌, ◌<◌, Bool, true, false, List, ◌++◌, length, []}
use Rattle.std.specs.List.{flat_map}
use Rattle.ff_rec.specs.Lines.{Rec}
use Rattle.ff_node.specs.declared.class.Class.TheVariants.{Plain}
use Rattle.ff_node.specs.Behaviour.{Behaviour}
use Rattle.ff_node.specs.Classes.{reached}
use Rattle.ff_node.specs.Sends.{Sent, add}
use Rattle.ff_net.specs.declared.net.Test.{Test}
use Rattle.ff_net.specs.declared.tasks.Tasks.{Tasks}
use Rattle.ff_net.specs.Levels.{again, leaves_with}

-- a Plain node in a state that records led to
pub record IsPlainState {S : Type 0} (b : Behaviour S) (s : S) : Type 0 where
  pub class : b.class s ≡ Plain
  pub seen : List Rec
  pub is : s ≡ reached b s seen

-- the worker sends `send r` for a record and rejects `reject r`: of a whole level the new tasks and the results were added
pub record RunsLevel (send reject : Rec → List Rec) (p : Test) (level : List Rec) (x y : Tasks) (before after : Sent) : Type 0 where
  pub next : y.next ≡ x.next ++ again (flat_map send) p level
  pub results : y.results ≡ x.results ++ leaves_with (flat_map send) p level
  pub room : y.room + length (again (flat_map send) p level) ≡ x.room
  pub rejects : after ≡ add before [] (flat_map reject level)

-- the level was run, or there isn't room for all of the next
abbrev pub HasRunLevel : (Rec → List Rec) → (Rec → List Rec) → Test → List Rec → Tasks → Tasks → Sent → Sent → Bool → Type 0
HasRunLevel send reject p level x y before after true = RunsLevel send reject p level x y before after
HasRunLevel send reject p level x y before after false = x.room < length (again (flat_map send) p level)
