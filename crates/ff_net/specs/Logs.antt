-- What the master of a wrap did: which tasks it was fed and gave to its workers, and which answers it got from them. A log has the
-- newest event first.
use Rattle.std.specs.Prelude.{◌≡◌, ◌⊎◌, ℕ, suc, ◌<◌, ◌≤◌, ◌==◌, nat_le, if◌then◌else◌, Bool, not, List, [], ◌∷◌, ◌++◌, length}
use Rattle.std.specs.List.{AllByRecursion, filter}
use Rattle.ff_rec.specs.Lines.{Rec}
use Rattle.ff_rec.specs.Streams.{at, carried, closed, unaborted}
use Rattle.ff_rec.specs.Weights.{Same, weigh}
use Rattle.ff_rec.specs.declared.msg.Msg.TheVariants.{Item, Mark, Pick, Eos, Abort}
use Rattle.ff_node.specs.Fits.{grouped, IsItemOrMark}
use Rattle.ff_node.specs.Runs.{Message, AllGoOn}
use Rattle.ff_net.specs.declared.net.Test.{Test}
use Rattle.ff_net.specs.Levels.{meets}

-- a task was fed in, or given to worker `w`, or an answer was got from it
pub data Event : Type 0 where
  Fed : (t : Rec) → Event
  Gave : (w : ℕ) (t : Rec) → Event
  Got : (w : ℕ) (answer : List Rec) → Event

-- the tasks that were fed in, in their order
abbrev pub fed : List Event → List Rec
fed [] = []
fed (Fed t ∷ log) = fed log ++ t ∷ []
fed (Gave w t ∷ log) = fed log
fed (Got w answer ∷ log) = fed log

-- the tasks that were given, to whichever worker
abbrev pub given : List Event → List Rec
given [] = []
given (Fed t ∷ log) = given log
given (Gave w t ∷ log) = given log ++ t ∷ []
given (Got w answer ∷ log) = given log

-- those that were given to worker `j`
abbrev pub given_to : ℕ → List Event → List Rec
given_to j [] = []
given_to j (Fed t ∷ log) = given_to j log
given_to j (Gave w t ∷ log) = given_to j log ++ (if w == j then t ∷ [] else [])
given_to j (Got w answer ∷ log) = given_to j log

-- the answers that were got from worker `j`
abbrev pub got_from : ℕ → List Event → List (List Rec)
got_from j [] = []
got_from j (Fed t ∷ log) = got_from j log
got_from j (Gave w t ∷ log) = got_from j log
got_from j (Got w answer ∷ log) = got_from j log ++ (if w == j then answer ∷ [] else [])

-- the tasks that came: those that were fed in, and what of the answers meets the test
abbrev pub came : Test → List Event → List Rec
came p [] = []
came p (Fed t ∷ log) = came p log ++ t ∷ []
came p (Gave w t ∷ log) = came p log
came p (Got w answer ∷ log) = came p log ++ filter (meets p) answer

-- the results: what of the answers doesn't meet the test
abbrev pub came_out : Test → List Event → List Rec
came_out p [] = []
came_out p (Fed t ∷ log) = came_out p log
came_out p (Gave w t ∷ log) = came_out p log
came_out p (Got w answer ∷ log) = came_out p log ++ filter (λ r. not (meets p r)) answer

-- the tasks that may be given: those that came, as long as they are at most `m`, and after that no more than were given
abbrev pub made : ℕ → Test → List Event → List Rec
made m p log = if nat_le (length (came p log)) m then came p log else given log

-- more tasks came than the limit allows
abbrev pub IsOverLimit : ℕ → Test → List Event → Type 0
IsOverLimit m p log = m < length (came p log)

-- each element of `xs` stands in `ys` at least as often
pub record Within {A : Type 0} (xs ys : List A) : Type 0 where
  pub by : (h : A → ℕ) → weigh h xs ≤ weigh h ys

-- each event could happen when it did: a task was given to one of `n` workers that had come more often than it was given, and an answer
-- was got from one that owed it
abbrev pub IsLegal : ℕ → ℕ → Test → List Event → Type 0
IsLegal n m p [] = Unit {0}
IsLegal n m p (Fed t ∷ log) = IsLegal n m p log
IsLegal n m p (Gave w t ∷ log) = (w < n) × Within (t ∷ given log) (made m p log) × IsLegal n m p log
IsLegal n m p (Got w answer ∷ log) = (w < n) × (length (got_from w log) < length (given_to w log)) × IsLegal n m p log

-- every task was given, and every answer got
pub record IsDone (n m : ℕ) (p : Test) (log : List Event) : Type 0 where
  pub all_given : Same (given log) (made m p log)
  pub all_got : (w : ℕ) → w < n → length (got_from w log) ≡ length (given_to w log)

-- the edges to and from `n` workers carry the log. The ins and outs of a master are lists of messages before their Eos: in 0 is what is fed in, and
-- in 1 + w and out w are those of worker `w`; the last out is for the results
pub record CarryTasks (n : ℕ) (log : List Event) (ins outs : List (List Message)) : Type 0 where
  pub tasks : (w : ℕ) → w < n → at outs w ≡ carried (given_to w log)
  pub answers : (w : ℕ) → w < n → (more : List Message) × (at ins (suc w) ≡ grouped (got_from w log) ++ more)

-- the master did all that there was to do, and its edges carry the log
pub record HasDone (n m : ℕ) (p : Test) (log : List Event) (ins outs : List (List Message)) : Type 0 where
  pub done : IsDone n m p log
  pub fed_in : at ins 0 ≡ carried (fed log)
  pub workers : CarryTasks n log ins outs
  pub results : at outs n ≡ carried (came_out p log)

-- more tasks came than the limit allows. It read on, and nothing is said of its results
pub record HasOverrun (n m : ℕ) (p : Test) (log : List Event) (ins outs : List (List Message)) : Type 0 where
  pub over : IsOverLimit m p log
  pub rest : List Rec
  pub fed_in : at ins 0 ≡ carried (fed log ++ rest)
  pub workers : CarryTasks n log ins outs

-- in 0 carries records alone, and the answers come in groups
pub record AreMasterIns (n : ℕ) (ins : List (List Message)) : Type 0 where
  pub records : List Rec
  pub fed_in : at ins 0 ≡ carried records
  pub answers : (w : ℕ) → w < n → AllByRecursion IsItemOrMark (at ins (suc w))

-- the master of a wrap with `n` workers and at most `m` tasks: by its log it could do what it did, and either did all or is over its limit
pub record FitsMaster (n m : ℕ) (p : Test) (log : List Event) (ins outs : List (List Message)) : Type 0 where
  pub ins_are : length ins ≡ suc n
  pub outs_are : length outs ≡ suc n
  -- whatever comes in, the workers are given records alone. What their answers are like rests on this
  pub tasks : (w : ℕ) → w < n → (xs : List Rec) × (at outs w ≡ carried xs)
  pub by : AreMasterIns n ins → IsLegal n m p log × (HasDone n m p log ins outs ⊎ HasOverrun n m p log ins outs)

-- an Eos stands among these messages
abbrev pub HasEos : List Message → Type 0
HasEos [] = ⊥
HasEos (Item x ∷ ms) = HasEos ms
HasEos (Mark ∷ ms) = HasEos ms
HasEos (Pick w ∷ ms) = HasEos ms
HasEos (Eos ∷ ms) = Unit {0}
HasEos (Abort ∷ ms) = HasEos ms

-- these messages are the first of the whole list of `xs`
pub record BeginsWhole (so_far : List Message) (xs : List Rec) : Type 0 where
  pub more : List Message
  pub is : closed (carried xs) ≡ so_far ++ more

-- what it took and put at any moment, besides the tasks, by a log: it may hold more than it put yet, and may have dropped records that it took
pub record BeginsLogged (n m : ℕ) (p : Test) (log : List Event) (gots puts : List (List Message)) : Type 0 where
  pub fed_in : (more : List Message) × (unaborted (at gots 0) ≡ carried (fed log) ++ more)
  pub answers : (w : ℕ) → w < n → (more : List Message) × (unaborted (at gots (suc w)) ≡ grouped (got_from w log) ++ more)
  -- past the limit it drops results, and its Eos comes behind the others
  pub results : length (came p log) ≤ m → BeginsWhole (unaborted (at puts n)) (came_out p log)
  pub ends : (k : ℕ) → k < suc n → HasEos (at puts k) → HasEos (at gots 0) × IsDone n m p log
  pub whole : HasEos (at puts n) → length (came p log) ≤ m
      → (unaborted (at gots 0) ≡ closed (carried (fed log)))
      × ((w : ℕ) → w < n → unaborted (at puts w) ≡ closed (carried (given_to w log)))
      × (unaborted (at puts n) ≡ closed (carried (came_out p log)))

-- a master begins to fit: its log is legal, and its workers are given records alone by it, whatever comes in. Where what it took begins what its
-- ins may carry, the rest is by its log too
pub record BeginsMaster (n m : ℕ) (p : Test) (log : List Event) (gots puts : List (List Message)) : Type 0 where
  pub legal : IsLegal n m p log
  pub tasks : (w : ℕ) → w < n → BeginsWhole (unaborted (at puts w)) (given_to w log)
  pub by : (ins : List (List Message)) → AllGoOn gots ins → AreMasterIns n ins → BeginsLogged n m p log gots puts
