-- What ties the ports of an ordered merge to its state, by its mode. All is said of whole ins that go on from what was taken and
-- hold the groups that their picks want: where a wrong message came, there are none.
use Rattle.std.specs.Prelude.{◌≡◌, ℕ, ◌%◌, ◌<◌, Bool, true, false, nat_lt, if◌then◌else◌, List, [], ◌∷◌, ◌++◌, length, map, ◌≤◌, ◌⊎◌}
use Rattle.std.specs.List.{AllByRecursion}
use Rattle.ff_rec.specs.Lines.{Rec}
use Rattle.ff_rec.specs.Streams.{at, carried}
use Rattle.ff_rec.specs.declared.msg.Msg.TheVariants.{Pick, Eos as EosMsg, Abort as AbortMsg}
use Rattle.ff_node.specs.Fits.{grouped, gather, picked, HoldGroups, all_marks}
use Rattle.ff_node.specs.Picks.{turns, turns_from}
use Rattle.ff_node.specs.Runs.{Message, AllGoOn}
use Rattle.ff_port.specs.declared.answers.End.{End}
use Rattle.ff_port.specs.declared.answers.End.TheVariants.{Eos, Abort}
use Rattle.ff_unit.specs.Closing.{any_live, all_live}
use Rattle.ff_unit.specs.declared.mode.Mode.{Mode}
use Rattle.ff_unit.specs.declared.mode.Mode.TheVariants.{Live, Shut, Cut}
use Rattle.ff_order.specs.OMerges.{OMergeState, omerge_ins}
use Rattle.ff_order.specs.PortLaws.{FlagsFit}
use Rattle.ff_order.specs.declared.order.Order.{Order}
use Rattle.ff_order.specs.declared.order.Order.TheVariants.{InTurn, ByPick}
use Rattle.ff_unit.specs.Units.{TookAbort}

-- the picks by which whole ins are to be merged
abbrev pub ArePicksOf : Order → ℕ → List (List Message) → List ℕ → Type 0
ArePicksOf InTurn n ins picks = picks ≡ turns n (all_marks ins)
ArePicksOf ByPick n ins picks = (at ins n ≡ map (λ w. Pick w) picks) × AllByRecursion (λ w. w < n) picks

-- whole ins that go on from what was taken, and hold these groups for these picks
pub record Meets (order : Order) (n : ℕ) (gots ins : List (List Message)) (picks : List ℕ) (groups : ℕ → List (List Rec)) : Type 0 where
  pub go_on : AllGoOn gots ins
  pub picks_are : ArePicksOf order n ins picks
  pub hold : HoldGroups n picks ins groups

-- a fact on all that such ins are merged to
abbrev pub ForMerged : Order → ℕ → List (List Message) → (List (List Message) → List Rec → Type 0) → Type 0
ForMerged order n gots P =
    (ins : List (List Message)) (picks : List ℕ) (groups : ℕ → List (List Rec)) → Meets order n gots ins picks groups → P ins (gather picks groups)

-- the picks that are left, in turn: from the place that is due on
pub record TurnsLeft (n due : ℕ) (picks : List ℕ) : Type 0 where
  pub from : ℕ
  pub count : ℕ
  pub is_due : due ≡ from % n
  pub are : picks ≡ turns_from n from count

-- and by pick: that of the group that is due, and those that weren't taken yet
pub record PicksToCome (n due : ℕ) (gots ins : List (List Message)) (picks : List ℕ) : Type 0 where
  pub rest : List ℕ
  pub are : picks ≡ (if nat_lt due n then due ∷ rest else rest)
  pub told : at ins n ≡ at gots n ++ map (λ w. Pick w) rest
  pub within : AllByRecursion (λ w. w < n) rest

abbrev pub PicksLeft : Order → ℕ → ℕ → List (List Message) → List (List Message) → List ℕ → Type 0
PicksLeft InTurn n due gots ins picks = TurnsLeft n due picks
PicksLeft ByPick n due gots ins picks = PicksToCome n due gots ins picks

-- what is left of whole ins that are merged to `all`, while `ys` was merged
pub record IsLeft (order : Order) (n due : ℕ) (gots ins : List (List Message)) (all ys : List Rec) : Type 0 where
  pub picks : List ℕ
  pub groups : ℕ → List (List Rec)
  pub joins : all ≡ ys ++ gather picks groups
  pub shares : (j : ℕ) → j < n → at ins j ≡ at gots j ++ grouped (groups j)
  pub lengths : (j : ℕ) → j < n → length (groups j) ≡ picked picks j
  pub picks_left : PicksLeft order n due gots ins picks

-- some more comes behind `ys`
pub record BeginsAll (ys all : List Rec) : Type 0 where
  pub more : List Rec
  pub is : all ≡ ys ++ more

-- messages that carry the beginning of what is merged
pub record Begun (order : Order) (n : ℕ) (gots : List (List Message)) (p : List Message) : Type 0 where
  pub ys : List Rec
  pub is : p ≡ carried ys
  pub begins : ForMerged order n gots (λ ins all. BeginsAll ys all)

-- it merges
pub record TiedLive (order : Order) (n due : ℕ) (live : List Bool) (end : End) (gots : List (List Message)) (t : List Message) : Type 0 where
  pub ys : List Rec
  pub is : t ≡ carried ys
  pub all : live ≡ all_live (omerge_ins order n)
  pub ends : end ≡ Eos
  pub flags : FlagsFit live gots
  pub left : ForMerged order n gots (λ ins all. IsLeft order n due gots ins all ys)

-- Eos follows once no in gives any more
abbrev pub eos_after : Bool → List Message
eos_after true = []
eos_after false = EosMsg ∷ []

-- the last group was merged
pub record TiedShut (order : Order) (n : ℕ) (live : List Bool) (end : End) (gots : List (List Message)) (t : List Message) : Type 0 where
  pub ys : List Rec
  pub is : t ≡ carried ys ++ eos_after (any_live live)
  pub ends : end ≡ Eos
  pub flags : FlagsFit live gots
  pub exact : ForMerged order n gots (λ ins all. all ≡ ys)

-- the stream was cut off, and doesn't end by Eos
pub record TiedCut (order : Order) (n : ℕ) (end : End) (gots : List (List Message)) (t : List Message) : Type 0 where
  pub before : List Message
  pub begun : Begun order n gots before
  pub is : t ≡ before ++ AbortMsg ∷ []
  pub ends : end ≡ Eos → ⊥

abbrev pub TiedAt : Mode → Order → ℕ → ℕ → List Bool → End → List (List Message) → List Message → Type 0
TiedAt Live order n due live end gots t = TiedLive order n due live end gots t
TiedAt Shut order n due live end gots t = TiedShut order n live end gots t
TiedAt Cut order n due live end gots t = TiedCut order n end gots t

-- it took `gots` and put `p`
abbrev pub TiedTo : OMergeState → List (List Message) → List Message → Type 0
TiedTo u gots p = TiedAt u.mode u.order u.places u.due u.live u.end gots (p ++ u.held)

-- the ports of an ordered merge after a run, tied to its state
pub record IsTied (u : OMergeState) (gots puts : List (List Message)) : Type 0 where
  pub some : 1 ≤ u.places
  pub ins : length gots ≡ omerge_ins u.order u.places
  pub lives : length u.live ≡ omerge_ins u.order u.places
  pub due : u.due < omerge_ins u.order u.places
  pub put : List Message
  pub puts_are : puts ≡ put ∷ []
  pub tied : TiedTo u gots put
  pub ended : u.done ≡ true → (u.held ≡ []) × (any_live u.live ≡ false)
  pub cause : u.end ≡ Abort → (u.told ≡ true) ⊎ TookAbort gots
