-- What came of a source that was read, in the words of its whole text.
use Rattle.std.proofs.Common.{◌≡◌, ◌≢◌, ◌≤◌, ℕ, zero, suc, Ok, Bool, true, false, List, [], ◌++◌, length, map, Option, None, Some, option_map, refl, sym, ap, ◌∙◌, subst, append-nil, ℤ}
use Rattle.std.specs.Io.KnownBytes.{Consumes, IsAtEnd, Keeps}
use Rattle.std.proofs.KnownBytes.{Consumes-nil, Consumes-trans, Consumes-kept}
use Rattle.ff_io.specs.Bytes.{is_end}
use Rattle.ff_io.specs.declared.outside.Failed.{Failed}
use Rattle.ff_rec.specs.Limits.{ReadingLaw}
use Rattle.ff_rec.specs.Reading.{Reading, opening, after, given, last_given}
use Rattle.ff_rec.specs.ReadingLaws.{after-append, given-append}
use Rattle.ff_rec.specs.declared.fault.FeedFault.TheVariants.{Line as Passed}
use Rattle.ff_rec.specs.declared.fault.LineFault.{LineFault}
use Rattle.ff_net.specs.Versions.{line_bytes, input_bytes, limit_by, seen_by}
use Rattle.ff_net.specs.declared.net.Version.TheVariants.{One}
use Rattle.ff_numbers.specs.Data.{data_fault, lone_number}
use Rattle.ff_numbers.specs.Inputs.{Comes, IsRead, IsWrong}
use Rattle.ff_numbers.specs.Reads.{Adds, IsDataFault, Reads, ReadsWrong, Stops}
use Rattle.ff_numbers.specs.declared.fault.InputFault.{InputFault}
use Rattle.ff_numbers.specs.declared.fault.InputFault.TheVariants.{Read, Line, NotNumber, TooMany, NoMemory}
use Rattle.ff_numbers.specs.declared.fault.TheConstants.{MOST_NUMBERS}
use Rattle.ff_numbers.proofs.Adding.{Adds-behind, Adds-fine, Adds-none, data_fault-added}

-- the first reading of a text
abbrev pub start : Reading
start = opening (line_bytes One) input_bytes

-- a read that gives some bytes doesn't tell the end
pub is_end-some : (n : ℕ) → n ≢ 0 → is_end {E = Failed} (Ok n) ≡ false
is_end-some zero some = absurd (some refl)
is_end-some (suc n) some = refl

-- nothing was read yet
pub Reads-none : (r : Reading) (ns : List ℤ) (l : Option (List ℕ)) → length ns ≤ MOST_NUMBERS → Reads r ns r ns l l
Reads-none r ns l few = record { got = []; reads = Consumes-nil l; reader = refl; adds = Adds-none ns few }

-- the records of two stretches of bytes
given-two : (r s : Reading) (got piece : List ℕ) → s ≡ after r got → given r got ++ given s piece ≡ given r (got ++ piece)
given-two r s got piece is = ap (λ (t : Reading). given r got ++ given t piece) is ∙ sym (given-append r got piece)

after-two : (r s t : Reading) (got piece : List ℕ) → s ≡ after r got → t ≡ after s piece → t ≡ after r (got ++ piece)
after-two r s t got piece is more = more ∙ ap (λ (q : Reading). after q piece) is ∙ sym (after-append r got piece)

module _ (r s : Reading) (ns ms : List ℤ) (l m k : Option (List ℕ)) (so_far : Reads r ns s ms l m) (piece : List ℕ) (read : Consumes m k piece) where
  abbrev all : List ℕ
  all = so_far.got ++ piece

  reads_all : Consumes l k all
  reads_all = Consumes-trans l m k so_far.got piece so_far.reads read

  -- a piece more was read, and its numbers were added
  pub Reads-piece : (t : Reading) (now : List ℤ) → t ≡ after s piece → Adds (given s piece) ms now → Reads r ns t now l k
  Reads-piece t now is adds = record {
    got = all;
    reads = reads_all;
    reader = after-two r s t so_far.got piece so_far.reader is;
    adds = subst (λ xs. Adds xs ns now) (given-two r s so_far.got piece so_far.reader)
        (Adds-behind (given r so_far.got) (given s piece) ns ms now so_far.adds adds);
  }

  wrong_in : (fault : InputFault) → data_fault (length ms) (given s piece) ≡ Some fault → data_fault (length ns) (given r all) ≡ Some fault
  wrong_in fault is =
      ap (data_fault (length ns)) (sym (given-two r s so_far.got piece so_far.reader))
      ∙ data_fault-added (given r so_far.got) (given s piece) ns ms fault so_far.adds is

  -- something is wrong in it
  pub Stops-wrong : (fault : InputFault) (ended : Bool) → ended ≡ false → IsDataFault (length ms) (given s piece) fault → Stops fault r ns l k ended
  Stops-wrong Read ended going is = absurd is
  Stops-wrong (Line passed) ended going is = absurd is
  Stops-wrong (NotNumber line) ended going is = record { got = all; reads = reads_all; going = going; wrong = wrong_in (NotNumber line) is }
  Stops-wrong TooMany ended going is = record { got = all; reads = reads_all; going = going; wrong = wrong_in TooMany is }
  Stops-wrong NoMemory ended going is = (all, reads_all)

  -- memory ran out behind it
  pub Stops-memory : (ended : Bool) → Stops NoMemory r ns l k ended
  Stops-memory ended = (all, reads_all)

-- a limit was passed behind the numbers that were added
pub Stops-limit : (r t : Reading) (ns now : List ℤ) (l k : Option (List ℕ)) (passed : LineFault) (ended : Bool) → Reads r ns t now l k → t.fault ≡ Some (Passed passed) → ended ≡ false
    → Stops (Line passed) r ns l k ended
Stops-limit r t ns now l k passed ended so_far is going = record {
  got = so_far.got;
  reads = so_far.reads;
  refusal_is = ap (λ (q : Reading). q.fault) (sym so_far.reader) ∙ is;
  going = going;
  fine = Adds-fine (given r so_far.got) ns now so_far.adds;
}

-- a read failed
pub Stops-read : (r s : Reading) (ns ms : List ℤ) (l m k : Option (List ℕ)) (ended : Bool) → Reads r ns s ms l m → s.fault ≡ None → Keeps m k → ended ≡ false
    → Stops Read r ns l k ended
Stops-read r s ns ms l m k ended so_far none kept going = record {
  got = so_far.got;
  reads = Consumes-kept l m k so_far.got so_far.reads kept;
  refusal_is = ap (λ (q : Reading). q.fault) (sym so_far.reader) ∙ none;
  going = going;
  fine = Adds-fine (given r so_far.got) ns ms so_far.adds;
}

-- a read gave nothing
pub Reads-nothing : (r s : Reading) (ns ms : List ℤ) (l m k : Option (List ℕ)) (piece : List ℕ) → Reads r ns s ms l m → Consumes m k piece → piece ≡ [] → Reads r ns s ms l k
Reads-nothing r s ns ms l m k piece so_far read none = record {
  got = so_far.got;
  reads = subst (Consumes l k) (ap (λ p. so_far.got ++ p) none ∙ append-nil so_far.got) (Consumes-trans l m k so_far.got piece so_far.reads read);
  reader = so_far.reader;
  adds = so_far.adds;
}

-- the refusal of the reader is the limit that was passed
none-limit : (found : Option LineFault) → option_map Passed found ≡ None → found ≡ None
none-limit None is = refl
none-limit (Some passed) is = absurd (cc)

some-limit : (found : Option LineFault) (passed : LineFault) → option_map Passed found ≡ Some (Passed passed) → found ≡ Some passed
some-limit None passed is = absurd (cc)
some-limit (Some other) passed is = cc

module _ (law : ReadingLaw) (l k : Option (List ℕ)) where
  limit-none : (got : List ℕ) → (after start got).fault ≡ None → limit_by One got ≡ None
  limit-none got is = none-limit (limit_by One got) (sym (law (line_bytes One) input_bytes got).fault ∙ is)

  limit-some : (got : List ℕ) (passed : LineFault) → (after start got).fault ≡ Some (Passed passed) → limit_by One got ≡ Some passed
  limit-some got passed is = some-limit (limit_by One got) passed (sym (law (line_bytes One) input_bytes got).fault ∙ is)

  going-seen : (got : List ℕ) → given start got ≡ seen_by One got false
  going-seen got = (law (line_bytes One) input_bytes got).going

  -- the reading stopped before the end
  Wrong-seen : (fault : InputFault) (ended : Bool) → ReadsWrong fault start 0 l k ended → IsWrong fault l k ended
  Wrong-seen fault ended w = record {
    got = w.got;
    reads = w.reads;
    is = ap (λ e. data_fault 0 (seen_by One w.got e)) w.going ∙ ap (data_fault 0) (sym (going-seen w.got)) ∙ w.wrong;
  }

  pub Comes-stops : (fault : InputFault) (ended : Bool) → Stops fault start [] l k ended → Comes fault l k ended
  Comes-stops Read ended s = record {
    got = s.got;
    reads = s.reads;
    limit_is = limit-none s.got s.refusal_is;
    going = s.going;
    fine = ap (data_fault 0) (sym (going-seen s.got)) ∙ s.fine;
  }
  Comes-stops (Line passed) ended s = record {
    got = s.got;
    reads = s.reads;
    limit_is = limit-some s.got passed s.refusal_is;
    going = s.going;
    fine = ap (data_fault 0) (sym (going-seen s.got)) ∙ s.fine;
  }
  Comes-stops (NotNumber line) ended s = Wrong-seen (NotNumber line) ended s
  Comes-stops TooMany ended s = Wrong-seen TooMany ended s
  Comes-stops NoMemory ended s = s

  module _ (t : Reading) (ms : List ℤ) (so_far : Reads start [] t ms l k) (ended : Bool) (is_end : ended ≡ true) where
    -- the records of all lines, with a last one without a newline
    all-seen : given start so_far.got ++ last_given t.line ≡ seen_by One so_far.got true
    all-seen =
        ap (λ (q : Reading). given start so_far.got ++ last_given q.line) so_far.reader
        ∙ (law (line_bytes One) input_bytes so_far.got).at_end

    -- the source was read to its end
    pub IsRead-all : (now : List ℤ) → t.fault ≡ None → IsAtEnd k → Adds (last_given t.line) ms now → IsRead now l k ended
    IsRead-all now none at_end last =
        let all = Adds-behind (given start so_far.got) (last_given t.line) [] ms now so_far.adds last in
        record {
          got = so_far.got;
          reads = so_far.reads;
          within = limit-none so_far.got (ap (λ (q : Reading). q.fault) (sym so_far.reader) ∙ none);
          is_end = is_end;
          at_end = at_end;
          numbers = ap (map lone_number) (sym all-seen) ∙ all.numbers ∙ ap (map Some) (sym all.all);
          few = all.few;
        }

    wrong_last : (fault : InputFault) → data_fault (length ms) (last_given t.line) ≡ Some fault → data_fault 0 (seen_by One so_far.got ended) ≡ Some fault
    wrong_last fault is =
        ap (λ e. data_fault 0 (seen_by One so_far.got e)) is_end ∙ ap (data_fault 0) (sym all-seen)
        ∙ data_fault-added (given start so_far.got) (last_given t.line) [] ms fault so_far.adds is

    -- something is wrong with the last line
    pub Comes-last : (fault : InputFault) → IsDataFault (length ms) (last_given t.line) fault → Comes fault l k ended
    Comes-last Read is = absurd is
    Comes-last (Line passed) is = absurd is
    Comes-last (NotNumber line) is = record { got = so_far.got; reads = so_far.reads; is = wrong_last (NotNumber line) is }
    Comes-last TooMany is = record { got = so_far.got; reads = so_far.reads; is = wrong_last TooMany is }
    Comes-last NoMemory is = (so_far.got, so_far.reads)
