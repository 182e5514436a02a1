-- Reading byte by byte is cutting the text at its newlines, up to the first limit that it passes.
use Rattle.std.proofs.Common.{◌≡◌, ◌≢◌, ◌⊎◌, inl, inr, ℕ, suc, ◌+◌, ◌-◌, ◌<◌, ◌≤◌, Bool, true, false, eqb, cond, List, [], ◌∷◌, ◌++◌, take, Option, None, Some, refl, sym, ap, ap₂, ◌∙◌, subst, arith, append_assoc, eqb-true, eq-eqb}
use Rattle.std.proofs.lemmas.Bool.{both_ways, cases_lt}
use Rattle.std.proofs.lemmas.List.{append-nil}
use Rattle.std.specs.Prelude.{option_map}
use Rattle.ff_rec.specs.declared.fault.LineFault.{LineFault}
use Rattle.ff_rec.specs.declared.fault.LineFault.TheVariants.{TooLong, TooManyFields, InputTooLong}
use Rattle.ff_rec.specs.declared.fault.FeedFault.TheVariants.{Line}
use Rattle.ff_rec.specs.Lines.{Rec, cut, lines, records, whole}
use Rattle.ff_rec.specs.Limits.{or_later, lines_fault, input_fault, limit, seen_by, ReadingLaw}
use Rattle.ff_rec.specs.Pieces.{Lacks}
use Rattle.ff_rec.specs.Reading.{Reading, line_fault, reading, after, given, last_given}
use Rattle.ff_rec.proofs.LineLimits.{line_fault-within, line_fault-number, IsOfLine, long, many, Lacks-append}
use Rattle.ff_rec.proofs.FirstLimits.{IsFrom, IsFrom-or_later, IsFrom-lines_fault, IsFrom-input_fault, first_limit, first_limit-end, first_limit-full, first_limit-newline, first_limit-other, first_limit-fault}
use Rattle.ff_rec.proofs.WholeLines.{records-newline, whole-newline, whole-Lacks, records-Lacks, seen_by-begins}
use Rattle.ff_rec.proofs.Feeding.{after-newline, given-newline, after-other, given-other, after-fault, given-fault, byte_fault-full, byte_fault-other}

-- what is read from a place on, by the first limit that is passed there
seen_from : Option LineFault → Bool → ℕ → ℕ → List ℕ → List ℕ → List Rec
seen_from None ended room n line b = cond ended (records (line ++ b)) (whole (line ++ b))
seen_from (Some (TooLong m)) ended room n line b = take (m - (n + 1)) (records (line ++ b))
seen_from (Some (TooManyFields m)) ended room n line b = take (m - (n + 1)) (records (line ++ b))
seen_from (Some InputTooLong) ended room n line b = whole (line ++ take room b)

seen_from-newline : (o : Option LineFault) (ended : Bool) (k room n : ℕ) (line cs : List ℕ) → Lacks 10 line → k ≡ suc room → IsFrom (n + 1 + 1) o
    → seen_from o ended k n line (10 ∷ cs) ≡ cut 9 line ∷ seen_from o ended room (n + 1) [] cs
unfolding seen_from
seen_from-newline None true k room n line cs clean e later = records-newline line cs clean
seen_from-newline None false k room n line cs clean e later = whole-newline line cs clean
seen_from-newline (Some (TooLong m)) ended k room n line cs clean e later =
    ap (take (m - (n + 1))) (records-newline line cs clean)
    ∙ ap (λ j. take j (cut 9 line ∷ records cs)) (let d : m - (n + 1) ≡ suc (m - (n + 1 + 1)) = omega arith in d)
seen_from-newline (Some (TooManyFields m)) ended k room n line cs clean e later =
    ap (take (m - (n + 1))) (records-newline line cs clean)
    ∙ ap (λ j. take j (cut 9 line ∷ records cs)) (let d : m - (n + 1) ≡ suc (m - (n + 1 + 1)) = omega arith in d)
seen_from-newline (Some InputTooLong) ended k room n line cs clean e later =
    ap (λ j. whole (line ++ take j (10 ∷ cs))) e ∙ whole-newline line (take room cs) clean

seen_from-other : (o : Option LineFault) (ended : Bool) (k room n : ℕ) (line : List ℕ) (c : ℕ) (cs : List ℕ) → k ≡ suc room
    → seen_from o ended k n line (c ∷ cs) ≡ seen_from o ended room n (line ++ c ∷ []) cs
unfolding seen_from
seen_from-other None true k room n line c cs e = ap records (sym (append_assoc line (c ∷ []) cs))
seen_from-other None false k room n line c cs e = ap whole (sym (append_assoc line (c ∷ []) cs))
seen_from-other (Some (TooLong m)) ended k room n line c cs e = ap (λ (bs : List ℕ). take (m - (n + 1)) (records bs)) (sym (append_assoc line (c ∷ []) cs))
seen_from-other (Some (TooManyFields m)) ended k room n line c cs e = ap (λ (bs : List ℕ). take (m - (n + 1)) (records bs)) (sym (append_assoc line (c ∷ []) cs))
seen_from-other (Some InputTooLong) ended k room n line c cs e =
    ap (λ j. whole (line ++ take j (c ∷ cs))) e ∙ ap whole (sym (append_assoc line (c ∷ []) (take room cs)))

seen_from-here : (n : ℕ) (f : LineFault) (ended : Bool) (room : ℕ) (line b : List ℕ) → IsOfLine (n + 1) f → seen_from (Some f) ended room n line b ≡ []
unfolding seen_from
seen_from-here n f ended room line b long = ap (λ k. take k (records (line ++ b))) (let e : n + 1 - (n + 1) ≡ 0 = omega arith in e)
seen_from-here n f ended room line b many = ap (λ k. take k (records (line ++ b))) (let e : n + 1 - (n + 1) ≡ 0 = omega arith in e)

-- reading on from a place is cutting what stands there
record IsCutFrom (o : Option LineFault) (l i t n : ℕ) (line b : List ℕ) : Type 0 where
  fault : (after (reading l i t n line) b).fault ≡ option_map Line o
  going : given (reading l i t n line) b ≡ seen_from o false (i - t) n line b
  at_end : given (reading l i t n line) b ++ last_given (after (reading l i t n line) b).line ≡ seen_from o true (i - t) n line b

-- by the first limit, of a byte and those behind it
abbrev CutHere : ℕ → ℕ → ℕ → ℕ → List ℕ → ℕ → List ℕ → Type 0
CutHere l i t n line b cs = IsCutFrom (first_limit l i t n line (b ∷ cs)) l i t n line (b ∷ cs)

module _ (l i t n : ℕ) (line : List ℕ) (clean : Lacks 10 line) (fits : line_fault l (n + 1) line ≡ None) where
  cut-end : IsCutFrom None l i t n line []
  unfolding seen_from
  cut-end = record {
    fault = refl;
    going = sym (ap whole (append-nil line) ∙ whole-Lacks line clean);
    at_end = sym (ap records (append-nil line) ∙ records-Lacks line clean);
  }

  cut-full : (c : ℕ) (cs : List ℕ) → i ≤ t → IsCutFrom (Some InputTooLong) l i t n line (c ∷ cs)
  unfolding seen_from
  cut-full c cs full =
      let is = byte_fault-full l i t n line c full in
      let e : i - t ≡ 0 = omega arith in
      let none : whole (line ++ take (i - t) (c ∷ cs)) ≡ [] = ap (λ k. whole (line ++ take k (c ∷ cs))) e ∙ ap whole (append-nil line) ∙ whole-Lacks line clean in
      record {
        fault = ap (λ (s : Reading). s.fault) (after-fault l i t n line c cs InputTooLong is);
        going = given-fault l i t n line c cs InputTooLong is ∙ sym none;
        at_end = ap₂ (λ (rs : List Rec) (s : Reading). rs ++ last_given s.line) (given-fault l i t n line c cs InputTooLong is) (after-fault l i t n line c cs InputTooLong is) ∙ sym none;
      }

  cut-fault : (c : ℕ) (cs : List ℕ) (f : LineFault) → t < i → c ≢ 10 → line_fault l (n + 1) (line ++ c ∷ []) ≡ Some f → IsCutFrom (Some f) l i t n line (c ∷ cs)
  cut-fault c cs f room other passed =
      let is = byte_fault-other l i t n line c room other ∙ passed in
      let of_line = line_fault-number l (n + 1) (line ++ c ∷ []) f passed in
      record {
        fault = ap (λ (s : Reading). s.fault) (after-fault l i t n line c cs f is);
        going = given-fault l i t n line c cs f is ∙ sym (seen_from-here n f false (i - t) line (c ∷ cs) of_line);
        at_end = ap₂ (λ (rs : List Rec) (s : Reading). rs ++ last_given s.line) (given-fault l i t n line c cs f is) (after-fault l i t n line c cs f is)
            ∙ sym (seen_from-here n f true (i - t) line (c ∷ cs) of_line);
      }

  cut-newline : (cs : List ℕ) (o : Option LineFault) → t < i → IsFrom (n + 1 + 1) o → IsCutFrom o l i (t + 1) (n + 1) [] cs → IsCutFrom o l i t n line (10 ∷ cs)
  cut-newline cs o room later h =
      let e : i - t ≡ suc (i - (t + 1)) = omega arith in
      record {
        fault = ap (λ (s : Reading). s.fault) (after-newline l i t n line cs room) ∙ h.fault;
        going = given-newline l i t n line cs room ∙ ap (λ (rs : List Rec). cut 9 line ∷ rs) h.going
            ∙ sym (seen_from-newline o false (i - t) (i - (t + 1)) n line cs clean e later);
        at_end = ap₂ (λ (rs : List Rec) (s : Reading). rs ++ last_given s.line) (given-newline l i t n line cs room) (after-newline l i t n line cs room)
            ∙ ap (λ (rs : List Rec). cut 9 line ∷ rs) h.at_end
            ∙ sym (seen_from-newline o true (i - t) (i - (t + 1)) n line cs clean e later);
      }

  cut-other : (c : ℕ) (cs : List ℕ) (o : Option LineFault) → t < i → c ≢ 10 → line_fault l (n + 1) (line ++ c ∷ []) ≡ None
      → IsCutFrom o l i (t + 1) n (line ++ c ∷ []) cs → IsCutFrom o l i t n line (c ∷ cs)
  cut-other c cs o room other more_fits h =
      let e : i - t ≡ suc (i - (t + 1)) = omega arith in
      record {
        fault = ap (λ (s : Reading). s.fault) (after-other l i t n line c cs room other more_fits) ∙ h.fault;
        going = given-other l i t n line c cs room other more_fits ∙ h.going ∙ sym (seen_from-other o false (i - t) (i - (t + 1)) n line c cs e);
        at_end = ap₂ (λ (rs : List Rec) (s : Reading). rs ++ last_given s.line) (given-other l i t n line c cs room other more_fits) (after-other l i t n line c cs room other more_fits)
            ∙ h.at_end
            ∙ sym (seen_from-other o true (i - t) (i - (t + 1)) n line c cs e);
      }

cut-from : (l i t n : ℕ) (line b : List ℕ) → Lacks 10 line → line_fault l (n + 1) line ≡ None → IsCutFrom (first_limit l i t n line b) l i t n line b
cut-from l i t n line [] clean fits =
    subst (λ (o : Option LineFault). IsCutFrom o l i t n line []) (sym (first_limit-end l i t n line clean fits)) (cut-end l i t n line clean fits)
cut-from l i t n line (c ∷ cs) clean fits =
    by_room (cases_lt t i)
    (cut-from l i (t + 1) (n + 1) [] cs tt (line_fault-within l (n + 1 + 1) [] (omega arith) (omega arith)))
    (λ other more_fits. cut-from l i (t + 1) n (line ++ c ∷ []) cs (Lacks-append 10 line (c ∷ []) clean (other, tt)) more_fits)
  where
    by_fault : t < i → c ≢ 10 → (o : Option LineFault) → line_fault l (n + 1) (line ++ c ∷ []) ≡ o
        → (line_fault l (n + 1) (line ++ c ∷ []) ≡ None → IsCutFrom (first_limit l i (t + 1) n (line ++ c ∷ []) cs) l i (t + 1) n (line ++ c ∷ []) cs)
        → CutHere l i t n line c cs
    by_fault room other None is more =
        subst (λ (o : Option LineFault). IsCutFrom o l i t n line (c ∷ cs)) (sym (first_limit-other l i t n line c cs room))
        (cut-other l i t n line clean fits c cs (first_limit l i (t + 1) n (line ++ c ∷ []) cs) room other is (more is))
    by_fault room other (Some f) is more =
        subst (λ (o : Option LineFault). IsCutFrom o l i t n line (c ∷ cs)) (sym (first_limit-fault l i t n line c cs f room clean other is))
        (cut-fault l i t n line clean fits c cs f room other is)

    newline : t < i → IsCutFrom (first_limit l i (t + 1) (n + 1) [] cs) l i (t + 1) (n + 1) [] cs → CutHere l i t n line 10 cs
    newline room h =
        let o = first_limit l i (t + 1) (n + 1) [] cs in
        subst (λ (p : Option LineFault). IsCutFrom p l i t n line (10 ∷ cs)) (sym (first_limit-newline l i t n line cs room clean fits))
        (cut-newline l i t n line clean fits cs o room
        (IsFrom-or_later (n + 1 + 1) _ _ (IsFrom-lines_fault l (n + 1 + 1) (lines (take (i - (t + 1)) cs))) (IsFrom-input_fault (n + 1 + 1) (i - (t + 1)) cs)) h)

    by_byte : (e : Bool) → eqb c 10 ≡ e → t < i → IsCutFrom (first_limit l i (t + 1) (n + 1) [] cs) l i (t + 1) (n + 1) [] cs
        → (c ≢ 10 → line_fault l (n + 1) (line ++ c ∷ []) ≡ None → IsCutFrom (first_limit l i (t + 1) n (line ++ c ∷ []) cs) l i (t + 1) n (line ++ c ∷ []) cs)
        → CutHere l i t n line c cs
    by_byte true is room h more = subst (λ b. CutHere l i t n line b cs) (sym (eqb-true c 10 is)) (newline room h)
    by_byte false is room h more =
        let other : c ≢ 10 = λ is10. both_ways (eqb c 10) is (eq-eqb c 10 is10) in
        by_fault room other (line_fault l (n + 1) (line ++ c ∷ [])) refl (more other)

    by_room : (t < i) ⊎ (i ≤ t) → IsCutFrom (first_limit l i (t + 1) (n + 1) [] cs) l i (t + 1) (n + 1) [] cs
        → (c ≢ 10 → line_fault l (n + 1) (line ++ c ∷ []) ≡ None → IsCutFrom (first_limit l i (t + 1) n (line ++ c ∷ []) cs) l i (t + 1) n (line ++ c ∷ []) cs)
        → CutHere l i t n line c cs
    by_room (inl room) h more = by_byte (eqb c 10) refl room h more
    by_room (inr full) h more =
        subst (λ (o : Option LineFault). IsCutFrom o l i t n line (c ∷ cs)) (sym (first_limit-full l i t n line c cs full clean fits))
        (cut-full l i t n line clean fits c cs full)

-- from the beginning on
seen_from-opening : (o : Option LineFault) (ended : Bool) (i : ℕ) (b : List ℕ) → seen_from o ended (i - 0) 0 [] b ≡ seen_by o i b ended
unfolding seen_from
seen_from-opening None ended i b = refl
seen_from-opening (Some (TooLong m)) ended i b = refl
seen_from-opening (Some (TooManyFields m)) ended i b = refl
seen_from-opening (Some InputTooLong) ended i b = ap (λ k. whole (take k b)) (let e : i - 0 ≡ i = omega arith in e)

pub reading-law : ReadingLaw
reading-law l i b =
    let h = cut-from l i 0 0 [] b tt (line_fault-within l 1 [] (omega arith) (omega arith)) in
    let same : first_limit l i 0 0 [] b ≡ limit l i b = ap (λ k. or_later (lines_fault l 1 (lines (take k b))) (input_fault k b)) (let e : i - 0 ≡ i = omega arith in e) in
    record {
      fault = h.fault ∙ ap (option_map Line) same;
      going = h.going ∙ seen_from-opening (first_limit l i 0 0 [] b) false i b ∙ ap (λ (o : Option LineFault). seen_by o i b false) same;
      begins = seen_by-begins (limit l i b) i b;
      at_end = h.at_end ∙ seen_from-opening (first_limit l i 0 0 [] b) true i b ∙ ap (λ (o : Option LineFault). seen_by o i b true) same;
    }
