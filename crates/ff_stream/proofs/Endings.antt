-- How a run ends whose stream was taken in.
use Rattle.std.proofs.Common.{◌≡◌, ℕ, List, [], ◌++◌, None, Some, Ok, Err, refl, sym, ap, ◌∙◌, inl, inr, append_assoc, append-nil, subst}
use Rattle.std.specs.Prelude.{Option}
use Rattle.std.specs.Io.KnownBytes.{Appends, Consumes, Keeps}
use Rattle.std.proofs.KnownBytes.{Appends-nil, Appends-trans, Consumes-nil, Keeps-trans}
use Rattle.ff_rec.specs.Lines.{Rec}
use Rattle.ff_stream.specs.Endings.{Begun, IsCutShort, IsReadOut, Ran, Told, halted, records_of, stop_count}
use Rattle.ff_stream.specs.Jobs.{Job}
use Rattle.ff_stream.specs.Streams.{Streams}
use Rattle.ff_stream.specs.Takings.{IsTaken, IsHalted}
use Rattle.ff_stream.specs.Works.{Ends, IsOpen}
use Rattle.ff_stream.specs.declared.ending.Report.{Report}
use Rattle.ff_stream.specs.declared.ending.Stop.{Stop}
use Rattle.ff_stream.specs.declared.fault.Halt.{Halt}
use Rattle.ff_stream.specs.declared.fault.Halt.TheVariants.{Write, NoMemory}
use Rattle.ff_stream.specs.declared.fault.RunFault.{RunFault}
use Rattle.ff_stream.specs.declared.fault.RunFault.TheVariants.{Tasks, Write as WriteFault, NoMemory as NoMemoryFault}

-- nothing was written
Keeps-nothing : (t u : Option (List ℕ)) (put : List ℕ) → Appends t u put → put ≡ [] → Keeps t u
Keeps-nothing None u put written empty = tt
Keeps-nothing (Some x) None put written empty = absurd written
Keeps-nothing (Some x) (Some y) put written empty = written ∙ ap (λ l. x ++ l) empty ∙ append-nil x

-- the row of a halt
pub Ran-halted : {N : Type 0} (j : Job N) (s : Streams) (halt : Halt) → IsCutShort j s halt → Ran j s (Err (halted halt))
Ran-halted j s Write cut = cut
Ran-halted j s NoMemory cut = cut

-- nothing was done yet
pub IsCutShort-none : {N : Type 0} (j : Job N) (s : Streams) → s.left_now ≡ s.left → s.taken_now ≡ s.taken → IsCutShort j s NoMemory
IsCutShort-none j s left taken = record {
  got = [];
  reads = subst (λ l. Consumes s.left l []) (sym left) (Consumes-nil s.left);
  front = [];
  writes = subst (λ t. Appends s.taken t []) (sym taken) (Appends-nil s.taken);
  begun = inl refl;
  goes_on = inr (λ zs. inl refl);
  waits = λ wraps. inr (refl, refl);
}

-- a run whose stream came to a halt: what was written begins an answer whatever follows the records that the work took
module _ {N W : Type 0} (stands : Job N → W → List Rec → List ℕ → Type 0) (broken : Job N → W → Halt → List Rec → List ℕ → Type 0)
    (j : Job N) (halt : Halt) (w : W) (s : Streams) (came : IsHalted stands broken j halt w s) (opened : IsOpen j halt came.first came.front) where
  begun-halted : (zs : List Rec) → Begun j halt (records_of j s came.got ++ zs) came.front
  begun-halted zs =
      subst (λ l. Begun j halt l came.front) (sym (append_assoc came.first came.rest zs) ∙ ap (λ l. l ++ zs) (sym came.splits)) (opened.begun (came.rest ++ zs))

  pub IsCutShort-halted : IsCutShort j s halt
  IsCutShort-halted = record {
    got = came.got;
    reads = came.reads;
    front = came.front;
    writes = came.writes;
    begun = subst (λ l. Begun j halt l came.front) (append-nil (records_of j s came.got)) (begun-halted []);
    goes_on = inr begun-halted;
    waits = λ wraps. inr (opened.waits wraps);
  }

  pub Ran-given_up : Ran j s (Err (halted halt))
  Ran-given_up = Ran-halted j s halt IsCutShort-halted

-- a run whose stream was taken in, and whose work came to its end or broke off there
module _ {N W : Type 0} (stands : Job N → W → List Rec → List ℕ → Type 0) (j : Job N) (w : W) (stop : Stop) (s : Streams) (taken : IsTaken stands j w stop s)
    (now : Option (List ℕ)) where
  -- it came to its end
  pub Ran-ended : (report : Report) → Ends j (records_of j s taken.got) taken.front s.taken_now now (Ok report) → Ran j (record s { taken_now = now }) (Ok (record { stop = stop; report = report }))
  Ran-ended report ends = record {
    got = taken.got;
    reads = taken.reads;
    sent = ends.sent;
    answers = ends.answers;
    writes = subst (Appends s.taken now) (sym ends.whole) (Appends-trans s.taken s.taken_now now taken.front ends.put taken.writes ends.taken);
    reports = ends.reports;
    stops = taken.stops;
  }

  -- and a fact holds of the records that it took
  pub Told-ended : (report : Report) (fact : List Rec → Type 0) → Ends j (records_of j s taken.got) taken.front s.taken_now now (Ok report) → fact (records_of j s taken.got)
      → Told j (record s { taken_now = now }) fact (record { stop = stop; report = report })
  unfolding Ran-ended
  Told-ended report fact ends told = record { run = Ran-ended report ends; told = told }

  module _ (counts : s.faults_now ≡ stop_count s.faults stop) where
    read_out : IsReadOut j (record s { taken_now = now }) taken.got
    read_out = record { stop = stop; stops = taken.stops; counts = counts }

    IsCutShort-broken : (halt : Halt) (put : List ℕ) → Appends s.taken_now now put → Begun j halt (records_of j s taken.got) (taken.front ++ put) → IsCutShort j (record s { taken_now = now }) halt
    IsCutShort-broken halt put written begun = record {
      got = taken.got;
      reads = taken.reads;
      front = taken.front ++ put;
      writes = Appends-trans s.taken s.taken_now now taken.front put taken.writes written;
      begun = begun;
      goes_on = inl read_out;
      waits = λ wraps. inl read_out;
    }

    -- it broke off there, or a wrap has too many tasks
    pub Ran-broken : (fault : RunFault) → Ends j (records_of j s taken.got) taken.front s.taken_now now (Err fault) → Ran j (record s { taken_now = now }) (Err fault)
    Ran-broken Tasks ends = record {
      got = taken.got;
      reads = taken.reads;
      over = ends.over;
      untouched = Keeps-trans s.taken s.taken_now now (Keeps-nothing s.taken s.taken_now taken.front taken.writes ends.nothing) ends.untouched;
      read_out = read_out;
    }
    Ran-broken WriteFault ends = IsCutShort-broken Write ends.put ends.taken ends.begun
    Ran-broken NoMemoryFault ends = IsCutShort-broken NoMemory ends.put ends.taken ends.begun
