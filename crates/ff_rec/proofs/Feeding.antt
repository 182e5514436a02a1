-- Bytes read one after the other: those of a line that passes no limit, its newline, the byte that passes one.
use Rattle.std.proofs.Common.{◌≡◌, ◌≢◌, ℕ, ◌+◌, ◌<◌, ◌≤◌, List, [], ◌∷◌, ◌++◌, length, take, Option, None, Some, refl, sym, ap, ◌∙◌, arith, append_assoc, add-zero}
use Rattle.std.proofs.lemmas.Bool.{cond-true, cond-false, lt-leb, le-leb, ne_eqb}
use Rattle.std.proofs.lemmas.List.{append-nil}
use Rattle.std.proofs.Math.Seq.{take-append_seam}
use Rattle.ff_rec.specs.declared.fault.LineFault.{LineFault}
use Rattle.ff_rec.specs.declared.fault.LineFault.TheVariants.{InputTooLong}
use Rattle.ff_rec.specs.declared.fault.FeedFault.{FeedFault}
use Rattle.ff_rec.specs.declared.fault.FeedFault.TheVariants.{Line}
use Rattle.ff_rec.specs.Lines.{Rec, cut}
use Rattle.ff_rec.specs.Pieces.{Lacks}
use Rattle.ff_rec.specs.Reading.{Reading, line_fault, reading, refused, byte_fault, moved, ends, next, gives, after, given}
use Rattle.ff_rec.proofs.LineLimits.{line_fault-append, line_fault-front}

-- after a refusal nothing is read
pub after-refused : (l i : ℕ) (f : FeedFault) (bs : List ℕ) → after (refused l i f) bs ≡ refused l i f
after-refused l i f [] = refl
after-refused l i f (b ∷ bs) = after-refused l i f bs

pub given-refused : (l i : ℕ) (f : FeedFault) (bs : List ℕ) → given (refused l i f) bs ≡ []
given-refused l i f [] = refl
given-refused l i f (b ∷ bs) = given-refused l i f bs

-- in any state with a refusal
pub after-stays : (s : Reading) (f : FeedFault) (bs : List ℕ) → s.fault ≡ Some f → after s bs ≡ s
after-stays s f [] is = refl
after-stays s f (b ∷ bs) is = ap (λ (o : Option FeedFault). after (next o s b) bs) is ∙ after-stays s f bs is

pub given-stays : (s : Reading) (f : FeedFault) (bs : List ℕ) → s.fault ≡ Some f → given s bs ≡ []
given-stays s f [] is = refl
given-stays s f (b ∷ bs) is = ap (λ (o : Option FeedFault). gives o s b ++ given (next o s b) bs) is ∙ given-stays s f bs is

-- the byte behind the limit of the input
pub byte_fault-full : (l i t n : ℕ) (line : List ℕ) (c : ℕ) → i ≤ t → byte_fault (reading l i t n line) c ≡ Some InputTooLong
byte_fault-full l i t n line c full = cond-true _ _ _ (le-leb i t full)

-- a newline passes no other limit
pub byte_fault-newline : (l i t n : ℕ) (line : List ℕ) → t < i → byte_fault (reading l i t n line) 10 ≡ None
byte_fault-newline l i t n line room = cond-false _ _ _ (lt-leb i t room)

-- any other byte passes those of its line
pub byte_fault-other : (l i t n : ℕ) (line : List ℕ) (c : ℕ) → t < i → c ≢ 10
    → byte_fault (reading l i t n line) c ≡ line_fault l (n + 1) (line ++ c ∷ [])
byte_fault-other l i t n line c room other = cond-false _ _ _ (lt-leb i t room) ∙ cond-false _ _ _ (ne_eqb c 10 other)

moved-other : (l i t n : ℕ) (line : List ℕ) (c : ℕ) → c ≢ 10 → moved None (reading l i t n line) c ≡ reading l i (t + 1) n (line ++ c ∷ [])
moved-other l i t n line c other = cond-false _ _ _ (ne_eqb c 10 other)

ends-other : (l i t n : ℕ) (line : List ℕ) (c : ℕ) → c ≢ 10 → ends None (reading l i t n line) c ≡ []
ends-other l i t n line c other = cond-false _ _ _ (ne_eqb c 10 other)

-- a byte by the limit that it passes
after-byte : (l i t n : ℕ) (line : List ℕ) (c : ℕ) (rest : List ℕ) (o : Option LineFault) → byte_fault (reading l i t n line) c ≡ o
    → after (reading l i t n line) (c ∷ rest) ≡ after (moved o (reading l i t n line) c) rest
after-byte l i t n line c rest o is = ap (λ (p : Option LineFault). after (moved p (reading l i t n line) c) rest) is

given-byte : (l i t n : ℕ) (line : List ℕ) (c : ℕ) (rest : List ℕ) (o : Option LineFault) → byte_fault (reading l i t n line) c ≡ o
    → given (reading l i t n line) (c ∷ rest) ≡ ends o (reading l i t n line) c ++ given (moved o (reading l i t n line) c) rest
given-byte l i t n line c rest o is =
    ap (λ (p : Option LineFault). ends p (reading l i t n line) c ++ given (moved p (reading l i t n line) c) rest) is

-- a byte of a line that passes no limit
pub after-other : (l i t n : ℕ) (line : List ℕ) (c : ℕ) (rest : List ℕ) → t < i → c ≢ 10 → line_fault l (n + 1) (line ++ c ∷ []) ≡ None
    → after (reading l i t n line) (c ∷ rest) ≡ after (reading l i (t + 1) n (line ++ c ∷ [])) rest
after-other l i t n line c rest room other fits =
    after-byte l i t n line c rest None (byte_fault-other l i t n line c room other ∙ fits)
    ∙ ap (λ (s : Reading). after s rest) (moved-other l i t n line c other)

pub given-other : (l i t n : ℕ) (line : List ℕ) (c : ℕ) (rest : List ℕ) → t < i → c ≢ 10 → line_fault l (n + 1) (line ++ c ∷ []) ≡ None
    → given (reading l i t n line) (c ∷ rest) ≡ given (reading l i (t + 1) n (line ++ c ∷ [])) rest
given-other l i t n line c rest room other fits =
    given-byte l i t n line c rest None (byte_fault-other l i t n line c room other ∙ fits)
    ∙ ap (λ (rs : List Rec). rs ++ given (moved None (reading l i t n line) c) rest) (ends-other l i t n line c other)
    ∙ ap (λ (s : Reading). given s rest) (moved-other l i t n line c other)

-- a newline ends the line
pub after-newline : (l i t n : ℕ) (line rest : List ℕ) → t < i → after (reading l i t n line) (10 ∷ rest) ≡ after (reading l i (t + 1) (n + 1) []) rest
after-newline l i t n line rest room = after-byte l i t n line 10 rest None (byte_fault-newline l i t n line room)

pub given-newline : (l i t n : ℕ) (line rest : List ℕ) → t < i
    → given (reading l i t n line) (10 ∷ rest) ≡ cut 9 line ∷ given (reading l i (t + 1) (n + 1) []) rest
given-newline l i t n line rest room = given-byte l i t n line 10 rest None (byte_fault-newline l i t n line room)

-- a byte that passes a limit
pub after-fault : (l i t n : ℕ) (line : List ℕ) (c : ℕ) (rest : List ℕ) (f : LineFault) → byte_fault (reading l i t n line) c ≡ Some f
    → after (reading l i t n line) (c ∷ rest) ≡ refused l i (Line f)
after-fault l i t n line c rest f is = after-byte l i t n line c rest (Some f) is ∙ after-refused l i (Line f) rest

pub given-fault : (l i t n : ℕ) (line : List ℕ) (c : ℕ) (rest : List ℕ) (f : LineFault) → byte_fault (reading l i t n line) c ≡ Some f
    → given (reading l i t n line) (c ∷ rest) ≡ []
given-fault l i t n line c rest f is = given-byte l i t n line c rest (Some f) is ∙ given-refused l i (Line f) rest

-- what bytes do: the state behind them, and the records that they give
pub record Does (s : Reading) (bs : List ℕ) (then_s : Reading) (rest : List ℕ) : Type 0 where
  pub state : after s bs ≡ after then_s rest
  pub records : given s bs ≡ given then_s rest

-- a part of a line that passes no limit
pub Does-part : (l i t n : ℕ) (line part rest : List ℕ) → Lacks 10 part → t + length part ≤ i → line_fault l (n + 1) (line ++ part) ≡ None
    → Does (reading l i t n line) (part ++ rest) (reading l i (t + length part) n (line ++ part)) rest
Does-part l i t n line [] rest clean room fits =
    let same : reading l i t n line ≡ reading l i (t + 0) n (line ++ []) =
    ap (λ k. reading l i k n line) (sym (add-zero t)) ∙ ap (reading l i (t + 0) n) (sym (append-nil line)) in
    record {
      state = ap (λ (s : Reading). after s rest) same;
      records = ap (λ (s : Reading). given s rest) same;
    }
Does-part l i t n line (c ∷ cs) rest clean room fits =
    let joined : (line ++ c ∷ []) ++ cs ≡ line ++ c ∷ cs = append_assoc line (c ∷ []) cs in
    let fits_all : line_fault l (n + 1) ((line ++ c ∷ []) ++ cs) ≡ None = ap (line_fault l (n + 1)) joined ∙ fits in
    let fits_here : line_fault l (n + 1) (line ++ c ∷ []) ≡ None = line_fault-front l (n + 1) (line ++ c ∷ []) cs fits_all in
    let more = Does-part l i (t + 1) n (line ++ c ∷ []) cs rest clean.1 (omega arith) fits_all in
    let same : reading l i (t + 1 + length cs) n ((line ++ c ∷ []) ++ cs) ≡ reading l i (t + length (c ∷ cs)) n (line ++ c ∷ cs) =
    ap (λ k. reading l i k n ((line ++ c ∷ []) ++ cs)) (let e : t + 1 + length cs ≡ t + length (c ∷ cs) = omega arith in e)
    ∙ ap (reading l i (t + length (c ∷ cs)) n) joined in
    record {
      state = after-other l i t n line c (cs ++ rest) (omega arith) clean.0 fits_here ∙ more.state ∙ ap (λ (s : Reading). after s rest) same;
      records = given-other l i t n line c (cs ++ rest) (omega arith) clean.0 fits_here ∙ more.records ∙ ap (λ (s : Reading). given s rest) same;
    }

-- a part of a line in which a limit is passed
pub Does-fault : (l i t n : ℕ) (line part rest : List ℕ) (f : LineFault) → Lacks 10 part → t + length part ≤ i
    → line_fault l (n + 1) line ≡ None → line_fault l (n + 1) (line ++ part) ≡ Some f
    → Does (reading l i t n line) (part ++ rest) (refused l i (Line f)) []
Does-fault l i t n line [] rest f clean room before is = let e : line_fault l (n + 1) line ≡ Some f = ap (line_fault l (n + 1)) (sym (append-nil line)) ∙ is in cc
Does-fault l i t n line (c ∷ cs) rest f clean room before is =
    by (line_fault l (n + 1) (line ++ c ∷ [])) refl
    (λ fits. Does-fault l i (t + 1) n (line ++ c ∷ []) cs rest f clean.1 (omega arith) fits is_all)
  where
    is_all : line_fault l (n + 1) ((line ++ c ∷ []) ++ cs) ≡ Some f
    is_all = ap (line_fault l (n + 1)) (append_assoc line (c ∷ []) cs) ∙ is

    by : (o : Option LineFault) → line_fault l (n + 1) (line ++ c ∷ []) ≡ o
        → (line_fault l (n + 1) (line ++ c ∷ []) ≡ None → Does (reading l i (t + 1) n (line ++ c ∷ [])) (cs ++ rest) (refused l i (Line f)) [])
        → Does (reading l i t n line) (c ∷ (cs ++ rest)) (refused l i (Line f)) []
    by None fits more = record {
      state = after-other l i t n line c (cs ++ rest) (omega arith) clean.0 fits ∙ (more fits).state;
      records = given-other l i t n line c (cs ++ rest) (omega arith) clean.0 fits ∙ (more fits).records;
    }
    by (Some g) passed more =
        let stays : line_fault l (n + 1) ((line ++ c ∷ []) ++ cs) ≡ Some g = line_fault-append l (n + 1) (line ++ c ∷ []) cs g passed in
        let same : Some g ≡ Some f = sym stays ∙ is_all in
        let here : byte_fault (reading l i t n line) c ≡ Some f = byte_fault-other l i t n line c (omega arith) clean.0 ∙ passed ∙ same in
        record {
          state = after-fault l i t n line c (cs ++ rest) f here;
          records = given-fault l i t n line c (cs ++ rest) f here;
        }

-- what a loop over the lines of a piece has done: the records that were due, and the bytes that are left
pub record HasRead (s : Reading) (piece : List ℕ) (old : List Rec) (now_s : Reading) (left : List ℕ) (now : List Rec) : Type 0 where
  pub got : List Rec
  pub appended : now ≡ old ++ got
  pub due : given s piece ≡ got ++ given now_s left
  pub state : after s piece ≡ after now_s left

-- one line more
pub HasRead-line : (s : Reading) (piece : List ℕ) (old now more : List Rec) (l i t n : ℕ) (line part rest left : List ℕ)
    → HasRead s piece old (reading l i t n line) left now → left ≡ part ++ 10 ∷ rest → Lacks 10 part → t + length part + 1 ≤ i
    → line_fault l (n + 1) (line ++ part) ≡ None → more ≡ now ++ cut 9 (line ++ part) ∷ []
    → HasRead s piece old (reading l i (t + length part + 1) (n + 1) []) rest more
HasRead-line s piece old now more l i t n line part rest left h is clean room fits pushed =
    let d = Does-part l i t n line part (10 ∷ rest) clean (omega arith) fits in
    let r = cut 9 (line ++ part) in
    record {
      got = h.got ++ r ∷ [];
      appended = pushed ∙ ap (λ (rs : List Rec). rs ++ r ∷ []) h.appended ∙ append_assoc old h.got (r ∷ []);
      due = h.due
          ∙ ap (λ (rs : List Rec). h.got ++ rs)
          (ap (given (reading l i t n line)) is ∙ d.records ∙ given-newline l i (t + length part) n (line ++ part) rest (omega arith))
          ∙ sym (append_assoc h.got (r ∷ []) (given (reading l i (t + length part + 1) (n + 1) []) rest));
      state = h.state ∙ ap (after (reading l i t n line)) is ∙ d.state ∙ after-newline l i (t + length part) n (line ++ part) rest (omega arith);
    }

-- some first part of the records that were due was appended
pub HasRead-first : {s now_s : Reading} {piece left : List ℕ} {old now : List Rec} → HasRead s piece old now_s left now
    → (n : ℕ) × (now ≡ old ++ take n (given s piece))
HasRead-first {s} {now_s} {piece} {left} {old} {now} h = (
  length h.got,
  h.appended ∙ ap (λ (rs : List Rec). old ++ rs) (sym (ap (take (length h.got)) h.due ∙ take-append_seam h.got (given now_s left))),
)

-- what is left gives no records: all that were due were appended
pub HasRead-all : {s now_s : Reading} {piece left : List ℕ} {old now : List Rec} → HasRead s piece old now_s left now → given now_s left ≡ []
    → now ≡ old ++ given s piece
HasRead-all {s} {now_s} {piece} {left} {old} {now} h none =
    h.appended ∙ ap (λ (rs : List Rec). old ++ rs) (sym (h.due ∙ ap (λ (rs : List Rec). h.got ++ rs) none ∙ append-nil h.got))

-- the last part of a piece, which no newline ends
pub Does-last : (l i t n : ℕ) (line part : List ℕ) → Lacks 10 part → t + length part ≤ i → line_fault l (n + 1) (line ++ part) ≡ None
    → Does (reading l i t n line) part (reading l i (t + length part) n (line ++ part)) []
Does-last l i t n line part clean room fits =
    let d = Does-part l i t n line part [] clean room fits in
    record {
      state = ap (after (reading l i t n line)) (sym (append-nil part)) ∙ d.state;
      records = ap (given (reading l i t n line)) (sym (append-nil part)) ∙ d.records;
    }

pub Does-last_fault : (l i t n : ℕ) (line part : List ℕ) (f : LineFault) → Lacks 10 part → t + length part ≤ i
    → line_fault l (n + 1) line ≡ None → line_fault l (n + 1) (line ++ part) ≡ Some f
    → Does (reading l i t n line) part (refused l i (Line f)) []
Does-last_fault l i t n line part f clean room before is =
    let d = Does-fault l i t n line part [] f clean room before is in
    record {
      state = ap (after (reading l i t n line)) (sym (append-nil part)) ∙ d.state;
      records = ap (given (reading l i t n line)) (sym (append-nil part)) ∙ d.records;
    }
