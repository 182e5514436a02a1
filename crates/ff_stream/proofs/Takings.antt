-- What came of a stream that was taken in, in the words of its whole text.
use Rattle.std.proofs.Common.{◌≡◌, ℕ, Bool, true, false, cond, List, [], ◌++◌, None, Some, refl, sym, ap, ◌∙◌, append_assoc, append-nil, subst}
use Rattle.std.specs.Prelude.{Option, option_map}
use Rattle.std.specs.Io.KnownBytes.{Consumes}
use Rattle.ff_rec.specs.declared.fault.FeedFault.TheVariants.{Line as Passed}
use Rattle.ff_rec.specs.declared.fault.LineFault.{LineFault}
use Rattle.ff_rec.specs.Limits.{ReadingLaw}
use Rattle.ff_rec.specs.Lines.{Rec}
use Rattle.ff_rec.specs.Reading.{Reading, opening, after, given, last_given}
use Rattle.ff_net.specs.Versions.{line_bytes, input_bytes, limit_by, seen_by}
use Rattle.ff_net.specs.declared.net.Version.{Version}
use Rattle.ff_stream.specs.Endings.{Stopped, records_of}
use Rattle.ff_stream.specs.Jobs.{Job}
use Rattle.ff_stream.specs.Reads.{Reads, ReadsSome, StopsAt, last_of}
use Rattle.ff_stream.specs.Streams.{Streams}
use Rattle.ff_stream.specs.Takings.{IsTaken, IsHalted}
use Rattle.ff_stream.specs.Works.{Goes, Halts}
use Rattle.ff_stream.specs.declared.ending.Stop.{Stop}
use Rattle.ff_stream.specs.declared.ending.Stop.TheVariants.{End, Read, Line}
use Rattle.ff_stream.specs.declared.fault.Halt.{Halt}
use Rattle.ff_stream.proofs.Goings.{Goes-from, Goes-trans, Halts-after, Halts-from}

-- the first reading of a text within the limits of a version
abbrev pub start : Version → Reading
start v = opening (line_bytes v) input_bytes

-- the record of a last line without a newline, where the source ended
abbrev last : Version → List ℕ → Bool → List Rec
last v got ended = cond ended (last_given (after (start v) got).line) []

-- the records that the bytes gave are those that are seen of them
given-seen : ReadingLaw → (v : Version) (got : List ℕ) (ended : Bool) → given (start v) got ++ last v got ended ≡ seen_by v got ended
given-seen law v got true = (law (line_bytes v) input_bytes got).at_end
given-seen law v got false = append-nil (given (start v) got) ∙ (law (line_bytes v) input_bytes got).going

-- the last line where the reading stopped
last_of-stop : (v : Version) (s : Reading) (got : List ℕ) (stop : Stop) (ended : Bool) (left : Option (List ℕ)) → s ≡ after (start v) got → StopsAt stop s.fault ended left
    → last_of stop s.line ≡ last v got ended
last_of-stop v s got End ended left is stops =
    ap (λ (q : Reading). last_given q.line) is ∙ ap (λ e. cond e (last_given (after (start v) got).line) []) (sym stops.1)
last_of-stop v s got Read ended left is stops = ap (λ e. cond e (last_given (after (start v) got).line) []) (sym stops.1)
last_of-stop v s got (Line passed) ended left is stops = ap (λ e. cond e (last_given (after (start v) got).line) []) (sym stops.1)

-- the refusal of the reader is the limit that was passed
none-limit : (found : Option LineFault) → option_map Passed found ≡ None → found ≡ None
none-limit None is = refl
none-limit (Some passed) is = absurd (cc)

some-limit : (found : Option LineFault) (passed : LineFault) → option_map Passed found ≡ Some (Passed passed) → found ≡ Some passed
some-limit None passed is = absurd (cc)
some-limit (Some other) passed is = cc

-- why reading stopped
Stopped-limit : (stop : Stop) (found : Option LineFault) (ended : Bool) (left : Option (List ℕ)) → StopsAt stop (option_map Passed found) ended left → Stopped stop found ended left
Stopped-limit End found ended left stops = (none-limit found stops.0, stops.1, stops.2)
Stopped-limit Read found ended left stops = (none-limit found stops.0, stops.1)
Stopped-limit (Line passed) found ended left stops = (some-limit found passed stops.0, stops.1)

Stopped-read : ReadingLaw → (v : Version) (s : Reading) (got : List ℕ) (stop : Stop) (ended : Bool) (left : Option (List ℕ)) → s ≡ after (start v) got → StopsAt stop s.fault ended left
    → Stopped stop (limit_by v got) ended left
Stopped-read law v s got stop ended left is stops =
    Stopped-limit stop (limit_by v got) ended left
    (subst (λ f. StopsAt stop f ended left) (ap (λ (q : Reading). q.fault) is ∙ (law (line_bytes v) input_bytes got).fault) stops)

module _ {N W : Type 0} (stands : Job N → W → List Rec → List ℕ → Type 0) (law : ReadingLaw) (w : W) (j : Job N) (at : stands j w [] []) (s : Streams) where
  records-given : (got : List ℕ) → given (start j.version) got ++ last j.version got s.ended ≡ records_of j s got
  records-given got = given-seen law j.version got s.ended

  -- it came to a halt while there was more to read, or at the last line
  module _ (halted : Job N → W → Halt → List Rec → List ℕ → Type 0) (u : W) (halt : Halt) where
    IsHalted-halts : (got : List ℕ) (xs others : List Rec) → Consumes s.left s.left_now got → xs ++ others ≡ records_of j s got
        → Halts stands halted w xs halt u s.taken s.taken_now → IsHalted stands halted j halt u s
    IsHalted-halts got xs others read all halts = record {
      got = got;
      reads = read;
      front = halts.put;
      writes = halts.taken;
      first = halts.first;
      rest = halts.rest ++ others;
      splits = sym all ∙ ap (λ l. l ++ others) halts.splits ∙ append_assoc halts.first halts.rest others;
      left = halts.leaves j [] [] at;
    }

    pub IsHalted-some : (r : Reading) → r ≡ start j.version → ReadsSome stands halted w r halt u s.left s.left_now s.taken s.taken_now → IsHalted stands halted j halt u s
    IsHalted-some r begins some =
        IsHalted-halts some.got (given (start j.version) some.got) (last j.version some.got s.ended) some.reads (records-given some.got)
        (Halts-from stands halted w u (given r some.got) (given (start j.version) some.got) halt s.taken s.taken_now (ap (λ (q : Reading). given q some.got) begins) some.halts)

  module _ (u : W) (r q : Reading) (begins : r ≡ start j.version) (stop : Stop) (mid : Option (List ℕ)) (so_far : Reads stands w r u q s.left s.left_now s.taken mid)
      (stops : StopsAt stop q.fault s.ended s.left_now) where
    reader : q ≡ after (start j.version) so_far.got
    reader = so_far.reader ∙ ap (λ (p : Reading). after p so_far.got) begins

    all-given : given r so_far.got ++ last_of stop q.line ≡ records_of j s so_far.got
    all-given =
        ap (λ l. given r so_far.got ++ l) (last_of-stop j.version q so_far.got stop s.ended s.left_now reader stops)
        ∙ ap (λ (p : Reading). given p so_far.got ++ last j.version so_far.got s.ended) begins
        ∙ records-given so_far.got

    pub IsHalted-last : (halted : Job N → W → Halt → List Rec → List ℕ → Type 0) (x : W) (halt : Halt) → Halts stands halted u (last_of stop q.line) halt x mid s.taken_now
        → IsHalted stands halted j halt x s
    IsHalted-last halted x halt halts =
        IsHalted-halts halted x halt so_far.got (given r so_far.got ++ last_of stop q.line) [] so_far.reads
        (append-nil (given r so_far.got ++ last_of stop q.line) ∙ all-given)
        (Halts-after stands halted w u x (given r so_far.got) (last_of stop q.line) halt s.taken mid s.taken_now so_far.goes halts)

    -- no more was to be read
    pub IsTaken-goes : (x : W) → Goes stands u (last_of stop q.line) x mid s.taken_now → IsTaken stands j x stop s
    IsTaken-goes x goes =
        let whole : Goes stands w (records_of j s so_far.got) x s.taken s.taken_now =
        Goes-from stands w x (given r so_far.got ++ last_of stop q.line) (records_of j s so_far.got) s.taken s.taken_now all-given
        (Goes-trans stands w u x (given r so_far.got) (last_of stop q.line) s.taken mid s.taken_now so_far.goes goes) in
        record {
          got = so_far.got;
          reads = so_far.reads;
          front = whole.put;
          writes = whole.taken;
          stands_so = whole.keeps j [] [] at;
          stops = Stopped-read law j.version q so_far.got stop s.ended s.left_now reader stops;
        }
