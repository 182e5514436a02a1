-- What must hold of the whole lists at a unit's ins and outs, their Eos left out. The rows are said of ins that carry only
-- the messages that their edge carries.
use Rattle.std.specs.Prelude.{◌≡◌, ℕ, suc, ◌+◌, ◌<◌, ◌==◌, if◌then◌else◌, List, [], ◌∷◌, ◌++◌, map, length}
use Rattle.std.specs.List.{AllByRecursion, flat_map}
use Rattle.ff_rec.specs.Lines.{Rec}
use Rattle.ff_rec.specs.Streams.{at, carried}
use Rattle.ff_rec.specs.declared.msg.Msg.TheVariants.{Item, Mark, Pick, Eos, Abort}
use Rattle.ff_node.specs.Behaviour.{Behaviour, node}
use Rattle.ff_node.specs.Picks.{ArePicks, share, turns, by_key}
use Rattle.ff_node.specs.Runs.{Message}
use Rattle.ff_node.specs.declared.class.Class.TheVariants.{Plain}

-- an edge of records and Marks carries nothing else
abbrev pub IsItemOrMark : Message → Type 0
IsItemOrMark (Item x) = Unit {0}
IsItemOrMark Mark = Unit {0}
IsItemOrMark (Pick w) = ⊥
IsItemOrMark Eos = ⊥
IsItemOrMark Abort = ⊥

-- each record replaced by what a Plain node sends for it, and each Mark kept
abbrev pub replaced : {S : Type 0} → Behaviour S → S → Message → List Message
replaced b o (Item x) = carried (b.sends (b.opening o) x)
replaced b o Mark = Mark ∷ []
replaced b o (Pick w) = []
replaced b o Eos = []
replaced b o Abort = []

-- a stage: where no Mark stands on its in, the out is what its node sends for the list; where the node is Plain, each record
-- is replaced by its sends
pub record FitsStage {S : Type 0} (b : Behaviour S) (o : S) (ins outs : List (List Message)) : Type 0 where
  pub one_in : length ins ≡ 1
  pub one_out : length outs ≡ 1
  pub unmarked : (xs : List Rec) → at ins 0 ≡ carried xs → at outs 0 ≡ carried (node b o xs)
  pub plain : b.class o ≡ Plain → AllByRecursion IsItemOrMark (at ins 0) → at outs 0 ≡ flat_map (replaced b o) (at ins 0)

-- a worker: for each task its sends and a Mark
pub record FitsWorker {S : Type 0} (b : Behaviour S) (o : S) (ins outs : List (List Message)) : Type 0 where
  pub one_in : length ins ≡ 1
  pub one_out : length outs ≡ 1
  pub tasks : (xs : List Rec) → at ins 0 ≡ carried xs → at outs 0 ≡ flat_map (λ x. carried (b.sends (b.opening o) x) ++ Mark ∷ []) xs

-- a deal by these picks: each out has its share
pub record IsDealt (n : ℕ) (picks : List ℕ) (xs : List Rec) (outs : List (List Message)) : Type 0 where
  pub outs_are : length outs ≡ n
  pub picks_are : ArePicks n picks xs
  pub shares : (j : ℕ) → j < n → at outs j ≡ carried (share picks xs j)

-- round robin: place k goes to out k mod n
abbrev pub FitsStrictDeal : ℕ → List (List Message) → List (List Message) → Type 0
FitsStrictDeal n ins outs = (length ins ≡ 1) × ((xs : List Rec) → at ins 0 ≡ carried xs → IsDealt n (turns n (length xs)) xs outs)

-- by key: the records of one key go to one out, and those without the field to out 0
abbrev pub FitsKeyDeal : ℕ → ℕ → List (List Message) → List (List Message) → Type 0
FitsKeyDeal f n ins outs = (length ins ≡ 1) × ((xs : List Rec) → at ins 0 ≡ carried xs → IsDealt n (by_key f n xs) xs outs)

-- on demand: each record goes to some out
abbrev pub FitsFreeDeal : ℕ → List (List Message) → List (List Message) → Type 0
FitsFreeDeal n ins outs = (length ins ≡ 1) × ((xs : List Rec) → at ins 0 ≡ carried xs → (picks : List ℕ) × IsDealt n picks xs outs)

-- each in has its share of these records
pub record IsGathered (n : ℕ) (picks : List ℕ) (ys : List Rec) (ins : List (List Message)) : Type 0 where
  pub picks_are : ArePicks n picks ys
  pub shares : (j : ℕ) → j < n → at ins j ≡ carried (share picks ys j)

-- a merge: the out is an interleaving of the ins
abbrev pub FitsMerge : ℕ → List (List Message) → List (List Message) → Type 0
FitsMerge n ins outs =
    (length ins ≡ n) × (length outs ≡ 1)
    × ((xss : List (List Rec)) → ins ≡ map carried xss → (ys : List Rec) × (picks : List ℕ) × (at outs 0 ≡ carried ys) × IsGathered n picks ys ins)

-- each record in a group of its own
abbrev pub marked : List Rec → List Message
marked xs = flat_map (λ x. Item x ∷ Mark ∷ []) xs

-- an ordered deal by these picks: each out has its share, each record of it in a group of its own
pub record IsMarkedDeal (n : ℕ) (picks : List ℕ) (xs : List Rec) (outs : List (List Message)) : Type 0 where
  pub picks_are : ArePicks n picks xs
  pub shares : (j : ℕ) → j < n → at outs j ≡ marked (share picks xs j)

-- an ordered deal, round robin
abbrev pub FitsStrictODeal : ℕ → List (List Message) → List (List Message) → Type 0
FitsStrictODeal n ins outs = (length ins ≡ 1) × (length outs ≡ n) × ((xs : List Rec) → at ins 0 ≡ carried xs → IsMarkedDeal n (turns n (length xs)) xs outs)

-- an ordered deal on demand, which tells its picks on the last out
abbrev pub FitsFreeODeal : ℕ → List (List Message) → List (List Message) → Type 0
FitsFreeODeal n ins outs =
    (length ins ≡ 1) × (length outs ≡ suc n)
    × ((xs : List Rec) → at ins 0 ≡ carried xs → (picks : List ℕ) × IsMarkedDeal n picks xs outs × (at outs n ≡ map (λ w. Pick w) picks))

-- groups of records, each with its Mark behind it
abbrev pub grouped : List (List Rec) → List Message
grouped groups = flat_map (λ group. carried group ++ Mark ∷ []) groups

-- the first group of place `w` is gone
abbrev pub without_first : (ℕ → List (List Rec)) → ℕ → ℕ → List (List Rec)
without_first groups w j = if w == j then tail (groups j) else groups j
  where
    tail : List (List Rec) → List (List Rec)
    tail [] = []
    tail (group ∷ rest) = rest

-- the records of the first group
abbrev pub first_group : List (List Rec) → List Rec
first_group [] = []
first_group (group ∷ rest) = group

-- the groups of all places joined in the order of these picks
abbrev pub gather : List ℕ → (ℕ → List (List Rec)) → List Rec
gather [] groups = []
gather (w ∷ picks) groups = first_group (groups w) ++ gather picks (without_first groups w)

-- how often place `j` is picked
abbrev pub picked : List ℕ → ℕ → ℕ
picked [] j = 0
picked (w ∷ picks) j = (if w == j then 1 else 0) + picked picks j

-- each in holds just one group for each pick of it
abbrev pub HoldGroups : ℕ → List ℕ → List (List Message) → (ℕ → List (List Rec)) → Type 0
HoldGroups n picks ins groups = (j : ℕ) → j < n → (at ins j ≡ grouped (groups j)) × (length (groups j) ≡ picked picks j)

-- how many Marks stand in a list
abbrev pub marks : List Message → ℕ
marks [] = 0
marks (Item x ∷ ms) = marks ms
marks (Mark ∷ ms) = suc (marks ms)
marks (Pick w ∷ ms) = marks ms
marks (Eos ∷ ms) = marks ms
marks (Abort ∷ ms) = marks ms

-- how many Marks stand on all ins together
abbrev pub all_marks : List (List Message) → ℕ
all_marks [] = 0
all_marks (ms ∷ mss) = marks ms + all_marks mss

-- an ordered merge, in turn: where each in holds a group for each of its places, the out is the groups in the order of the places
abbrev pub FitsTurnMerge : ℕ → List (List Message) → List (List Message) → Type 0
FitsTurnMerge n ins outs =
    (length ins ≡ n) × (length outs ≡ 1)
    × ((groups : ℕ → List (List Rec)) → HoldGroups n (turns n (all_marks ins)) ins groups → at outs 0 ≡ carried (gather (turns n (all_marks ins)) groups))

-- an ordered merge by the picks that its last in gives
abbrev pub FitsPickMerge : ℕ → List (List Message) → List (List Message) → Type 0
FitsPickMerge n ins outs =
    (length ins ≡ suc n) × (length outs ≡ 1)
    × ((picks : List ℕ) (groups : ℕ → List (List Rec)) → at ins n ≡ map (λ w. Pick w) picks → AllByRecursion (λ w. w < n) picks → HoldGroups n picks ins groups → at outs 0 ≡ carried (gather picks groups))
