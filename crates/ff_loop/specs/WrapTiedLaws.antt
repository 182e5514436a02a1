-- What ties the ports of a wrap's master to its state. `g` is what it took at each in, and `ps` what it put, each message with its out.
use Rattle.std.specs.Prelude.{◌≡◌, ◌≢◌, ◌⊎◌, ◌+◌, ◌<◌, ◌≤◌, ℕ, suc, Bool, true, false, List, [], ◌∷◌, ◌++◌, length, slice_index_or}
use Rattle.std.specs.List.{AllByRecursion}
use Rattle.ff_rec.specs.Lines.{Rec}
use Rattle.ff_rec.specs.Streams.{IsOpen, GoesOn, at, carried, closed, items, unaborted}
use Rattle.ff_rec.specs.declared.msg.Msg.TheVariants.{Eos as EosMsg, Abort as AbortMsg}
use Rattle.ff_net.specs.Logs.{Event, HasEos, BeginsWhole, IsDone, came, came_out, fed, given_to, got_from}
use Rattle.ff_node.specs.Fits.{IsItemOrMark, grouped}
use Rattle.ff_node.specs.Runs.{Message}
use Rattle.ff_port.specs.declared.answers.End.TheVariants.{Eos, Abort}
use Rattle.ff_unit.specs.Closing.{any_live}
use Rattle.ff_unit.specs.DealPairLaws.{Pair, on, AreInner}
use Rattle.ff_unit.specs.DealRowLaws.{ArePut}
use Rattle.ff_unit.specs.Deals.{on_outs}
use Rattle.ff_unit.specs.Units.{TookAbort}
use Rattle.ff_unit.specs.declared.mode.Mode.{Mode}
use Rattle.ff_unit.specs.declared.mode.Mode.TheVariants.{Live, Shut, Cut}
use Rattle.ff_loop.specs.Rounds.{test_of, limit_of, workers_of, log_of, taken_of, results_of, IsRound, IsLogged, NoneToGive}
use Rattle.ff_loop.specs.WrapMasters.{WrapState, part_at, is_past, owed}

-- what was taken at an in that goes on, or has ended by Eos, and held these records
abbrev pub HoldsFed : Bool → List Message → List Rec → Type 0
HoldsFed true ms xs = IsOpen ms × (items ms ≡ xs)
HoldsFed false ms xs = (front : List Message) × (ms ≡ closed front) × IsOpen front × (items front ≡ xs)

-- nothing more, or the Eos of what has ended
abbrev pub end_by : Bool → List Message
end_by true = []
end_by false = EosMsg ∷ []

-- what was taken at the in of a worker of a master that works: its answers, and what came of the next one
pub record AnswersWhole (log : List Event) (j : ℕ) (part : List Rec) (ms : List Message) : Type 0 where
  pub inner : IsOpen ms
  pub answers : AllByRecursion IsItemOrMark ms → ms ≡ grouped (got_from j log) ++ carried part

-- what was taken at the in of a worker that was told the end: its answers, and whatever came behind them
pub record AnswersShut (log : List Event) (j : ℕ) (live : Bool) (ms : List Message) : Type 0 where
  pub front : List Message
  pub is : ms ≡ front ++ end_by live
  pub inner : IsOpen front
  pub answers : AllByRecursion IsItemOrMark front → (more : List Message) × (front ≡ grouped (got_from j log) ++ more)

-- a message is told on `left` outs from out `next` on, on which no end stands
pub record IsTold (m : Message) (n : ℕ) (held ps : List Pair) : Type 0 where
  pub next : ℕ
  pub left : ℕ
  pub within : next + left ≤ n
  pub are : held ≡ on_outs next left m
  pub inner : (j : ℕ) → next ≤ j → j < next + left → IsOpen (on j ps)

-- it works
pub record TiedWorks (u : WrapState) (g : List (List Message)) (ps : List Pair) : Type 0 where
  pub end : u.end ≡ Eos
  pub goes_on : u.done ≡ false
  pub inner : AreInner (suc (workers_of u.round)) (ps ++ u.held)
  -- what was put and what is held is by the log
  pub tasks : (j : ℕ) → j < workers_of u.round → on j (ps ++ u.held) ≡ carried (given_to j (log_of u.round))
  pub results : on (workers_of u.round) (ps ++ u.held) ≡ carried (taken_of u.round)
  -- and so is what was taken
  pub fed_in : HoldsFed (slice_index_or u.live 0 false) (at g 0) (fed (log_of u.round))
  pub answers : (j : ℕ) → j < workers_of u.round → AnswersWhole (log_of u.round) j (part_at u j).sends (at g (suc j))
  pub owes : (j : ℕ) → j < workers_of u.round
      → length (got_from j (log_of u.round)) + owed (slice_index_or u.live (suc j) false) ≡ length (given_to j (log_of u.round))

-- it has done all: its workers are told, and then whoever reads its results
pub record TiedShut (u : WrapState) (g : List (List Message)) (ps : List Pair) : Type 0 where
  pub end : u.end ≡ Eos
  pub none_left : NoneToGive u.round
  pub no_result : results_of u.round ≡ []
  pub all_got : (j : ℕ) → j < workers_of u.round → length (got_from j (log_of u.round)) ≡ length (given_to j (log_of u.round))
  pub tasks : (j : ℕ) → j < workers_of u.round → on j (ps ++ u.held) ≡ closed (carried (given_to j (log_of u.round)))
  pub results : on (workers_of u.round) (ps ++ u.held) ≡ carried (taken_of u.round) ++ end_by (any_live u.live)
  pub fed_in : HoldsFed false (at g 0) (fed (log_of u.round))
  pub ended_0 : slice_index_or u.live 0 false ≡ false
  pub answers : (j : ℕ) → j < workers_of u.round → AnswersShut (log_of u.round) j (slice_index_or u.live (suc j) false) (at g (suc j))
  pub telling : IsTold EosMsg (suc (workers_of u.round)) u.held ps
  -- once every in has ended, all workers were told
  pub last_alone : any_live u.live ≡ false → (j : ℕ) → j < workers_of u.round → on j u.held ≡ []

-- it was cut off: what was put and what is held are beginnings of what would have come
pub record TiedCut (u : WrapState) (g : List (List Message)) (ps : List Pair) : Type 0 where
  pub end : u.end ≢ Eos
  pub tasks : (j : ℕ) → j < workers_of u.round → BeginsWhole (unaborted (on j (ps ++ u.held))) (given_to j (log_of u.round))
  pub results : length (came (test_of u.round) (log_of u.round)) ≤ limit_of u.round
      → BeginsWhole (unaborted (on (workers_of u.round) (ps ++ u.held))) (came_out (test_of u.round) (log_of u.round))
  pub ends : (k : ℕ) → k < suc (workers_of u.round) → HasEos (on k (ps ++ u.held))
      → HasEos (at g 0) × IsDone (workers_of u.round) (limit_of u.round) (test_of u.round) (log_of u.round)
  pub last_open : HasEos (on (workers_of u.round) (ps ++ u.held)) → ⊥
  -- where what it took goes on to lists that its ins may carry, it begins with what the log tells
  pub fed_in : (xs : List Rec) → GoesOn (unaborted (at g 0)) (carried xs)
      → (more : List Message) × (unaborted (at g 0) ≡ carried (fed (log_of u.round)) ++ more)
  pub answers : (j : ℕ) → j < workers_of u.round → (ms : List Message) → GoesOn (unaborted (at g (suc j))) ms → AllByRecursion IsItemOrMark ms
      → (more : List Message) × (unaborted (at g (suc j)) ≡ grouped (got_from j (log_of u.round)) ++ more)
  pub telling : IsTold AbortMsg (suc (workers_of u.round)) u.held ps

-- by its mode: within an act, and between two, when one that works and holds nothing has something to read
abbrev pub BareAt : Mode → WrapState → List (List Message) → List Pair → Type 0
BareAt Live u g ps = TiedWorks u g ps
BareAt Shut u g ps = TiedShut u g ps
BareAt Cut u g ps = TiedCut u g ps

abbrev pub TiedAt : Mode → WrapState → List (List Message) → List Pair → Type 0
TiedAt Live u g ps = TiedWorks u g ps × (u.held ≡ [] → any_live u.live ≡ true)
TiedAt Shut u g ps = TiedShut u g ps
TiedAt Cut u g ps = TiedCut u g ps

-- a master and its ports, tied so
pub record IsTiedBy (At : Mode → WrapState → List (List Message) → List Pair → Type 0) (u : WrapState) (gots puts : List (List Message)) : Type 0 where
  pub some : 1 ≤ workers_of u.round
  pub ins : length gots ≡ suc (workers_of u.round)
  pub flags : length u.live ≡ suc (workers_of u.round)
  pub parts_are : length u.parts ≡ workers_of u.round
  pub round : IsRound u.round
  pub logged : IsLogged u.round
  pub over : u.over ≡ is_past u.round
  pub cause : u.end ≡ Abort → (u.told ≡ true) ⊎ TookAbort gots
  pub ended : u.done ≡ true → (u.held ≡ []) × (any_live u.live ≡ false)
  pub given : List Pair
  pub puts_are : ArePut (suc (workers_of u.round)) puts given
  pub tied : At u.mode u gots given

-- within an act
abbrev pub IsBare : WrapState → List (List Message) → List (List Message) → Type 0
IsBare = IsTiedBy BareAt

-- as every run leaves them
abbrev pub IsTied : WrapState → List (List Message) → List (List Message) → Type 0
IsTied = IsTiedBy TiedAt
