-- The master of a wrap as a unit: its state, how it steps, and what it does.
use Rattle.std.specs.Prelude.{◌≡◌, ◌≢◌, ◌⊎◌, ◌+◌, ◌<◌, ◌≤◌, nat_lt, ℕ, zero, suc, Bool, true, false, if◌then◌else◌, List, [], ◌∷◌, ◌++◌, length, replicate, slice_index, slice_index_or, slice_set, None, Some}
use Rattle.ff_rec.specs.Lines.{Rec}
use Rattle.ff_rec.specs.Streams.{at, carried, closed, unaborted}
use Rattle.ff_rec.specs.declared.msg.Msg.TheVariants.{Item, Mark, Pick, Eos as EosMsg, Abort as AbortMsg}
use Rattle.ff_net.specs.Logs.{Event, FitsMaster, BeginsMaster, AreMasterIns, came, fed, given_to, got_from}
use Rattle.ff_net.specs.Logs.{Fed as EventFed, Got as EventGot}
use Rattle.ff_net.specs.declared.net.Test.{Test}
use Rattle.ff_node.specs.Runs.{Message, AllGoOn, Act, Took, Gave, Refused, Idle, Told, Handed}
use Rattle.ff_node.specs.Sends.{Sent, add, nothing_sent}
use Rattle.ff_port.specs.declared.answers.End.{End}
use Rattle.ff_port.specs.declared.answers.End.TheVariants.{Eos, Abort, Memory}
use Rattle.ff_unit.specs.Closing.{IsLive, any_live, all_live, none_live, decided, AllDry, is_memory}
use Rattle.ff_unit.specs.Deals.{on_outs, AreOpenOuts, MayBeRefused}
use Rattle.ff_unit.specs.StageUnit.{is_live}
use Rattle.ff_unit.specs.Units.{Doing, Known, TookAbort}
use Rattle.ff_unit.specs.declared.mode.Mode.{Mode}
use Rattle.ff_unit.specs.declared.mode.Mode.TheVariants.{Live, Shut, Cut}
use Rattle.ff_loop.specs.Masters.{opened_master}
use Rattle.ff_loop.specs.Rounds.{RoundState, test_of, limit_of, workers_of, log_of, taken_of, results_of, IsRound, GoesRound, NoneToGive, GivesTask}
use Rattle.ff_loop.specs.Worklists.{opened_work}

pub record WrapState : Type 0 where
  -- the tasks on their rounds, with all that was done, as they stood when memory last sufficed
  pub round : RoundState
  -- for each worker what came of its answer so far
  pub parts : List Sent
  -- for each in, whether it is to be read: while the master works, in 0 up to its end and those of workers that have a task; and
  -- afterwards each up to its end
  pub live : List Bool
  -- what is to be put, each message with its out
  pub held : List (ℕ × Message)
  -- whether it works, has done all and told its workers, or was cut off
  pub mode : Mode
  -- how it will end, as things stand
  pub end : End
  -- whether more tasks came than the limit allows
  pub over : Bool
  -- whether it has ended, and whether it was told to abort
  pub done : Bool
  pub told : Bool

-- the tasks of a wrap of which none came yet
abbrev pub opened_round : Test → ℕ → ℕ → RoundState
opened_round p m n = opened_master (opened_work p m) n

-- more tasks came than the limit allows
abbrev pub is_past : RoundState → Bool
is_past r = nat_lt (limit_of r) (length (came (test_of r) (log_of r)))

-- the master of a wrap of `n` workers with this test and limit that made no step
abbrev pub opened_wrap : Test → ℕ → ℕ → WrapState
opened_wrap p m n = record {
  round = opened_round p m n;
  parts = replicate n (nothing_sent false);
  live = true ∷ none_live n;
  held = [];
  mode = Live;
  end = Eos;
  over = false;
  done = false;
  told = false;
}

abbrev pub opening_wrap : WrapState → WrapState
opening_wrap u = opened_wrap (test_of u.round) (limit_of u.round) (workers_of u.round)

-- what came of the answer of worker `j` so far
abbrev pub part_at : WrapState → ℕ → Sent
part_at u j = slice_index_or u.parts j (nothing_sent false)

-- every worker's in is read to its end, and in 0 if it didn't end
abbrev pub to_ends : List Bool → List Bool
to_ends [] = []
to_ends (l ∷ live) = l ∷ all_live (length live)

-- a master that works is cut off: Abort is told on every out
abbrev pub cut_off : WrapState → End → WrapState
cut_off u e = record u { live = to_ends u.live; held = on_outs 0 (suc (workers_of u.round)) AbortMsg; mode = Cut; end = e }

-- by what was taken at in `k`, which has ended
abbrev pub spoils : WrapState → ℕ → End → WrapState
spoils u k e = record (cut_off u e) { live = slice_set (to_ends u.live) k false }

-- a task is fed in
pub record IsFed (u : WrapState) (x : Rec) (w : WrapState) : Type 0 where
  pub round : GoesRound u.round w.round (EventFed x ∷ log_of u.round) (taken_of u.round)
  pub over : w.over ≡ is_past w.round
  pub same : w ≡ record u { round = w.round; over = w.over }

-- the answer of worker `j` is whole, and it has no task
pub record IsAnswered (u : WrapState) (j : ℕ) (w : WrapState) : Type 0 where
  pub round : GoesRound u.round w.round (EventGot j (part_at u j).sends ∷ log_of u.round) (taken_of u.round)
  pub over : w.over ≡ is_past w.round
  pub same : w ≡ record u { round = w.round; over = w.over; parts = slice_set u.parts j (nothing_sent false); live = slice_set u.live (suc j) false }

-- a master that works takes a message: at in 0, or at that of a worker, whose end is none that a worker comes to while it has a task
abbrev pub WorkingTakes : WrapState → ℕ → Message → WrapState → Type 0
WorkingTakes u zero (Item x) w = IsFed u x w ⊎ (w ≡ cut_off u Memory)
WorkingTakes u zero Mark w = w ≡ u
WorkingTakes u zero (Pick i) w = w ≡ u
WorkingTakes u zero EosMsg w = w ≡ record u { live = slice_set u.live 0 false }
WorkingTakes u zero AbortMsg w = w ≡ spoils u 0 Abort
WorkingTakes u (suc j) (Item x) w = (w ≡ record u { parts = slice_set u.parts j (add (part_at u j) (x ∷ []) []) }) ⊎ (w ≡ cut_off u Memory)
WorkingTakes u (suc j) Mark w = IsAnswered u j w ⊎ (w ≡ cut_off (record u { parts = slice_set u.parts j (nothing_sent false) }) Memory)
WorkingTakes u (suc j) (Pick i) w = w ≡ u
WorkingTakes u (suc j) EosMsg w = w ≡ spoils u (suc j) Memory
WorkingTakes u (suc j) AbortMsg w = w ≡ spoils u (suc j) Abort

-- once every in has ended, Eos is told on the last out
abbrev pub closes_last : WrapState → WrapState
closes_last u = if any_live u.live then u else record u { held = (workers_of u.round, EosMsg) ∷ [] }

-- a master that has done all reads its ins to their ends
abbrev pub shut_takes : WrapState → ℕ → Message → WrapState
shut_takes u k (Item x) = u
shut_takes u k Mark = u
shut_takes u k (Pick i) = u
shut_takes u k EosMsg = closes_last (record u { live = slice_set u.live k false })
shut_takes u k AbortMsg = record u { live = slice_set u.live k false; held = (workers_of u.round, AbortMsg) ∷ []; mode = Cut; end = Abort }

-- and so does one that was cut off
abbrev pub cut_takes : WrapState → ℕ → Message → WrapState
cut_takes u k (Item x) = u
cut_takes u k Mark = u
cut_takes u k (Pick i) = u
cut_takes u k EosMsg = record u { live = slice_set u.live k false }
cut_takes u k AbortMsg = record u { live = slice_set u.live k false }

abbrev pub WrapTakes : Mode → WrapState → ℕ → Message → WrapState → Type 0
WrapTakes Live u k m w = WorkingTakes u k m w
WrapTakes Shut u k m w = w ≡ shut_takes u k m
WrapTakes Cut u k m w = w ≡ cut_takes u k m

-- a task is held for a worker that has none
pub record GivesNext (w v : WrapState) : Type 0 where
  pub worker : ℕ
  pub task : Rec
  pub below : worker < workers_of w.round
  pub free : slice_index_or w.live (suc worker) true ≡ false
  pub gives : GivesTask worker w.round (Some task) v.round
  pub same : v ≡ record w { round = v.round; live = slice_set w.live (suc worker) true; held = (worker, Item task) ∷ [] }

-- a result is held
pub record SendsNext (w v : WrapState) : Type 0 where
  pub result : Rec
  pub round : GoesRound w.round v.round (log_of w.round) (taken_of w.round ++ result ∷ [])
  pub same : v ≡ record w { round = v.round; held = (workers_of w.round, Item result) ∷ [] }

-- in 0 has ended, no worker has a task, none is left to be given, and no result: Eos is told to the workers
pub record TellsWorkers (w v : WrapState) : Type 0 where
  pub none_live : any_live w.live ≡ false
  pub none_left : NoneToGive w.round
  pub round : GoesRound w.round v.round (log_of w.round) (taken_of w.round)
  pub no_result : results_of v.round ≡ []
  pub same : v ≡ record w { round = v.round; live = false ∷ all_live (workers_of w.round); held = on_outs 0 (workers_of w.round) EosMsg; mode = Shut }

-- something is to be read, and nothing to be put
pub record ReadsOn (w v : WrapState) : Type 0 where
  pub some_live : any_live w.live ≡ true
  pub round : GoesRound w.round v.round (log_of w.round) (taken_of w.round)
  pub same : v ≡ record w { round = v.round }

-- what is to be put next
abbrev pub FindsNext : WrapState → WrapState → Type 0
FindsNext w v = GivesNext w v ⊎ SendsNext w v ⊎ TellsWorkers w v ⊎ ReadsOn w v

-- nothing was done, by the log
abbrev pub KeepsRound : WrapState → WrapState → Type 0
KeepsRound w v = GoesRound w.round v.round (log_of w.round) (taken_of w.round) × (v ≡ record w { round = v.round })

-- what a master that works does once nothing is held; where memory is refused, it is cut off
abbrev pub GoesNext : WrapState → WrapState → Type 0
GoesNext w v = FindsNext w v ⊎ ((x : WrapState) × KeepsRound w x × (v ≡ cut_off x Memory))

abbrev pub Pulls : Mode → List (ℕ × Message) → WrapState → WrapState → Type 0
Pulls Live [] w v = GoesNext w v
Pulls Live (pair ∷ held) w v = v ≡ w
Pulls Shut held w v = v ≡ w
Pulls Cut held w v = v ≡ w

-- one act of a master: it puts what it holds, or takes from an in that is to be read
abbrev pub WrapStep : WrapState → Act → WrapState → Type 0
WrapStep u (Took k m) v = (u.held ≡ []) × IsLive u.live k × (w : WrapState) × WrapTakes u.mode u k m w × Pulls w.mode w.held w v
WrapStep u (Gave k m) v = (w : WrapState) × (u.held ≡ (k, m) ∷ w.held) × (w ≡ record u { held = w.held }) × Pulls w.mode w.held w v
WrapStep u Refused v = MayBeRefused None u.held × (v ≡ cut_off u Memory)
WrapStep u Idle v = (v ≡ u) ⊎ ((u.held ≡ []) × (any_live u.live ≡ false) × (v ≡ record u { done = true }))
WrapStep u Told v =
    (u ≡ opening_wrap u)
    × (v ≡ record u { live = none_live (suc (workers_of u.round)); held = on_outs 0 (suc (workers_of u.round)) AbortMsg; mode = Cut; end = Abort; told = true })
WrapStep u (Handed x) v = ⊥

-- how many tasks a worker has whose in is read so
abbrev pub owed : Bool → ℕ
owed true = 1
owed false = 0

-- what it holds is right, and for as many workers as it has
pub record IsSized (u : WrapState) : Type 0 where
  pub round : IsRound u.round
  pub some : 1 ≤ workers_of u.round
  pub few : workers_of u.round ≤ 64
  pub flags : length u.live ≡ suc (workers_of u.round)
  pub parts_are : length u.parts ≡ workers_of u.round

-- just the workers whose ins are read have a task, one each
abbrev pub OwesOnly : WrapState → Type 0
OwesOnly u = (j : ℕ) → j < workers_of u.round
    → length (got_from j (log_of u.round)) + owed (slice_index_or u.live (suc j) false) ≡ length (given_to j (log_of u.round))

-- its ins and outs are as many as it has workers, and one more each; what it holds can be put; and one that has ended holds nothing
pub record WrapReady (u : WrapState) (gots puts : List (List Message)) : Type 0 where
  pub sized : IsSized u
  pub ins : length gots ≡ suc (workers_of u.round)
  pub outs : length puts ≡ suc (workers_of u.round)
  pub owes : u.mode ≡ Live → OwesOnly u
  pub open_held : AreOpenOuts puts u.held
  pub ended : u.done ≡ true → (u.held ≡ []) × (any_live u.live ≡ false)

-- the port that was due: the out of what is held first had no room, no in that is to be read gave anything, or something still waits to be
-- handed over
abbrev pub WrapStalls : List (ℕ × Message) → Bool → List Bool → Known → Known → Type 0
WrapStalls (pair ∷ held) goes_on live before after = (slice_index before.rooms pair.0 ≡ 0) × (slice_index after.rooms pair.0 ≡ 0)
WrapStalls [] true live before after = AllDry live before after
WrapStalls [] false live before after = after.waiting ≢ 0

-- one that was told to abort before its first step
abbrev pub aborted_wrap : WrapState → WrapState
aborted_wrap u = record u { live = none_live (suc (workers_of u.round)); mode = Cut; end = Abort; done = true; told = true }

-- all that it took at in 0 was fed in, and behind it at most Eos came, where what it took begins what its ins may carry
abbrev pub FedAll : ℕ → List Event → List (List Message) → Type 0
FedAll n log gots = (ins : List (List Message)) → AllGoOn gots ins → AreMasterIns n ins
    → (unaborted (at gots 0) ≡ carried (fed log)) ⊎ (unaborted (at gots 0) ≡ closed (carried (fed log)))

-- by its log it begins to fit; and it logs all that it takes, until it takes an Abort, is told to abort, or is short of memory
pub record BeginsWrap (u : WrapState) (gots puts : List (List Message)) : Type 0 where
  pub begins : BeginsMaster (workers_of u.round) (limit_of u.round) (test_of u.round) (log_of u.round) gots puts
  pub logs_all : u.told ≡ false → (TookAbort gots → ⊥) → is_memory u.end ≡ false → FedAll (workers_of u.round) (log_of u.round) gots

-- what the master of a wrap does: by its log it fits, and begins to fit
abbrev pub wrap_does : Doing WrapState
wrap_does = record {
  Made = λ u. (1 ≤ workers_of u.round) × (workers_of u.round ≤ 64);
  opening = opening_wrap;
  ins = λ u. suc (workers_of u.round);
  outs = λ u. suc (workers_of u.round);
  Rests = λ u. u.held ≡ [];
  fin = λ u. decided (any_live u.live) u.end;
  done = λ u. u.done;
  told = λ u. u.told;
  aborted = aborted_wrap;
  short = λ u. is_memory u.end;
  asks = λ u. is_live u.mode;
  rejects = λ u. 0;
  keeps = λ u. false;
  kept = λ u. [];
  taken = λ u. [];
  Steps = WrapStep;
  Ready = WrapReady;
  Stalls = λ u before after. WrapStalls u.held (any_live u.live) u.live before after;
  Fits = λ u. FitsMaster (workers_of u.round) (limit_of u.round) (test_of u.round) (log_of u.round);
  Begins = BeginsWrap;
  rejected = λ u gots. [];
}
