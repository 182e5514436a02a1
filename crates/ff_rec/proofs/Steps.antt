-- What the steps of reading a piece leave, by their answers.
use Rattle.std.proofs.Common.{◌≡◌, ℕ, ◌+◌, ◌≤◌, List, [], ◌∷◌, ◌++◌, length, take, min, take_all, Option, None, Some, Result, Ok, Err, refl, sym, ap, ◌∙◌, subst, arith}
use Rattle.std.specs.Prelude.{OnOk, IfErr}
use Rattle.std.proofs.lemmas.List.{append-nil, take-append-le}
use Rattle.ff_rec.specs.declared.fault.LineFault.{LineFault}
use Rattle.ff_rec.specs.declared.fault.FeedFault.{FeedFault}
use Rattle.ff_rec.specs.declared.fault.FeedFault.TheVariants.{Line, NoMemory}
use Rattle.ff_rec.specs.declared.fault.LineFault.TheVariants.{InputTooLong}
use Rattle.ff_rec.specs.declared.line_reader.progress.Limits.{Limits}
use Rattle.ff_rec.specs.declared.line_reader.progress.Progress.{Progress}
use Rattle.ff_rec.specs.Lines.{Rec, cut}
use Rattle.ff_rec.specs.Pieces.{Lacks}
use Rattle.ff_rec.specs.Progress.{IsReady, KeepsPart, EndsLine, IsLineFault, reading_of, state_of, left_by}
use Rattle.ff_rec.specs.Reading.{Reading, reading, refused, line_fault, after, given, UnlessMemory}
use Rattle.ff_rec.specs.ReadingLaws.{after-append, given-append}
use Rattle.ff_rec.proofs.LineLimits.{line_fault-within, take-min}
use Rattle.ff_rec.proofs.Feeding.{after-refused, given-refused, byte_fault-full, after-fault, given-fault, Does, Does-fault, Does-last, Does-last_fault, HasRead, HasRead-line, HasRead-all}

-- the line that a reader keeps passes no limit
pub line_fault-ready : (m : Limits) (p : Progress) → IsReady m p → line_fault m.line (p.ended + 1) p.line.items ≡ None
line_fault-ready m p r = line_fault-within m.line (p.ended + 1) p.line.items (subst (λ k. k ≤ 63) r.counted r.few) r.short

-- the refusal of the state is that of the field
pub state_of-fault : (o : Option FeedFault) (m : Limits) (p : Progress) → (state_of o m p).fault ≡ o
state_of-fault None m p = refl
state_of-fault (Some f) m p = refl

-- nothing of a piece was read yet
pub HasRead-nothing : (s : Reading) (piece : List ℕ) (old : List Rec) → HasRead s piece old s piece old
HasRead-nothing s piece old = record { got = []; appended = sym (append-nil old); due = refl; state = refl }

-- the state by the fields
reading_of-is : (m : Limits) (q : Progress) (t n : ℕ) (line : List ℕ) → q.taken ≡ t → q.ended ≡ n → q.line.items ≡ line
    → reading m.line m.input t n line ≡ reading_of m q
reading_of-is m q t n line taken ended is =
    ap (λ k. reading m.line m.input k n line) (sym taken)
    ∙ ap (λ k. reading m.line m.input q.taken k line) (sym ended)
    ∙ ap (reading m.line m.input q.taken q.ended) (sym is)

-- one line of a piece was read
pub HasRead-EndsLine : (s : Reading) (piece : List ℕ) (old now more : List Rec) (m : Limits) (p q : Progress) (part rest left : List ℕ)
    → HasRead s piece old (reading_of m p) left now → left ≡ part ++ 10 ∷ rest → Lacks 10 part → EndsLine m p q part
    → more ≡ now ++ cut 9 (p.line.items ++ part) ∷ [] → HasRead s piece old (reading_of m q) rest more
HasRead-EndsLine s piece old now more m p q part rest left h is clean e pushed =
    let room : p.taken + length part + 1 ≤ m.input = omega (arith, e.ready.room, e.taken) in
    subst (λ (r : Reading). HasRead s piece old r rest more) (reading_of-is m q (p.taken + length part + 1) (p.ended + 1) [] e.taken e.ended e.line)
    (HasRead-line s piece old now more m.line m.input p.taken p.ended p.line.items part rest left h is clean room e.fits pushed)

module _ (s : Reading) (piece : List ℕ) (old now : List Rec) (m : Limits) (p : Progress) (part : List ℕ) (ready : IsReady m p) (clean : Lacks 10 part) (room : p.taken + length part ≤ m.input) where
  -- a line passed a limit
  module _ (rest left : List ℕ) (h : HasRead s piece old (reading_of m p) left now) (is : left ≡ part ++ 10 ∷ rest) where
    fault : (f : LineFault) → line_fault m.line (p.ended + 1) (p.line.items ++ part) ≡ Some f
        → Does (reading_of m p) (part ++ 10 ∷ rest) (refused m.line m.input (Line f)) []
    fault f first = Does-fault m.line m.input p.taken p.ended p.line.items part (10 ∷ rest) f clean room (line_fault-ready m p ready) first

    pub fault-state : (q : Progress) (f : FeedFault) → IsLineFault f (line_fault m.line (p.ended + 1) (p.line.items ++ part))
        → UnlessMemory (Err f) (left_by (Err f) m q ≡ after s piece)
    fault-state q (Line f) first = sym (h.state ∙ ap (after (reading_of m p)) is ∙ (fault f first).state)
    fault-state q NoMemory first = tt

    pub fault-records : (f : FeedFault) → IsLineFault f (line_fault m.line (p.ended + 1) (p.line.items ++ part))
        → UnlessMemory (Err f) (now ≡ old ++ given s piece)
    fault-records (Line f) first = HasRead-all h (ap (given (reading_of m p)) is ∙ (fault f first).records)
    fault-records NoMemory first = tt

  -- the last part of the piece was read, which no newline ends
  module _ (h : HasRead s piece old (reading_of m p) part now) where
    last_fault : (f : LineFault) → line_fault m.line (p.ended + 1) (p.line.items ++ part) ≡ Some f
        → Does (reading_of m p) part (refused m.line m.input (Line f)) []
    last_fault f first = Does-last_fault m.line m.input p.taken p.ended p.line.items part f clean room (line_fault-ready m p ready) first

    pub last-state : (q : Progress) (answer : Result (Unit {0}) FeedFault) → OnOk answer (KeepsPart m p q part)
        → IfErr answer (λ f. IsLineFault f (line_fault m.line (p.ended + 1) (p.line.items ++ part)))
        → UnlessMemory answer (left_by answer m q ≡ after s piece)
    last-state q (Ok done) k first =
        sym (h.state ∙ (Does-last m.line m.input p.taken p.ended p.line.items part clean room k.fits).state
        ∙ reading_of-is m q (p.taken + length part) p.ended (p.line.items ++ part) k.taken k.ended k.line)
    last-state q (Err (Line f)) k first = sym (h.state ∙ (last_fault f first).state)
    last-state q (Err NoMemory) k first = tt

    pub last-records : (q : Progress) (answer : Result (Unit {0}) FeedFault) → OnOk answer (KeepsPart m p q part)
        → IfErr answer (λ f. IsLineFault f (line_fault m.line (p.ended + 1) (p.line.items ++ part)))
        → UnlessMemory answer (now ≡ old ++ given s piece)
    last-records q (Ok done) k first = HasRead-all h (Does-last m.line m.input p.taken p.ended p.line.items part clean room k.fits).records
    last-records q (Err (Line f)) k first = HasRead-all h (last_fault f first).records
    last-records q (Err NoMemory) k first = tt

-- more bytes than the limit of the input leaves room for
pub after-full : (m : Limits) (q : Progress) (ys : List ℕ) → m.input ≤ q.taken → 1 ≤ length ys
    → Does (reading_of m q) ys (refused m.line m.input (Line InputTooLong)) []
after-full m q [] full some = absurd (omega arith)
after-full m q (c ∷ cs) full some =
    let is = byte_fault-full m.line m.input q.taken q.ended q.line.items c full in
    record {
      state = after-fault m.line m.input q.taken q.ended q.line.items c cs InputTooLong is;
      records = given-fault m.line m.input q.taken q.ended q.line.items c cs InputTooLong is;
    }

-- all of them are a first part
pub first-all : (old now rs : List Rec) → now ≡ old ++ rs → (n : ℕ) × (now ≡ old ++ take n rs)
first-all old now rs is = (length rs, is ∙ ap (λ (l : List Rec). old ++ l) (sym (take_all (length rs) rs (omega arith))))

-- a fact holds where it holds of every answer
pub UnlessMemory-err : (f : FeedFault) (fact : Type 0) → fact → UnlessMemory (Err f) fact
UnlessMemory-err (Line f) fact h = h
UnlessMemory-err NoMemory fact h = tt

-- a piece of which the front was read
module _ (s : Reading) (xs ys piece : List ℕ) (whole : xs ++ ys ≡ piece) where
  -- what refuses the front refuses the piece
  pub front-state : (m : Limits) (q : Progress) (f : FeedFault) → UnlessMemory (Err f) (left_by (Err f) m q ≡ after s xs)
      → UnlessMemory (Err f) (left_by (Err f) m q ≡ after s piece)
  front-state m q (Line f) h =
      sym (ap (after s) (sym whole) ∙ after-append s xs ys ∙ ap (λ (r : Reading). after r ys) (sym h) ∙ after-refused m.line m.input (Line f) ys)
  front-state m q NoMemory h = tt

  -- behind the front stands more than there is room for
  pub full-state : (m : Limits) (q : Progress) → reading_of m q ≡ after s xs → m.input ≤ q.taken → 1 ≤ length ys
      → refused m.line m.input (Line InputTooLong) ≡ after s piece
  full-state m q read full some =
      sym (ap (after s) (sym whole) ∙ after-append s xs ys ∙ ap (λ (r : Reading). after r ys) (sym read) ∙ (after-full m q ys full some).state)

  -- the records that were appended
  module _ (old now : List Rec) where
    -- a first part of what the front gives is one of what the piece gives
    pub front-first : (n : ℕ) × (now ≡ old ++ take n (given s xs)) → (n : ℕ) × (now ≡ old ++ take n (given s piece))
    front-first h =
        let k = min (length (given s xs)) h.0 in
        let e : take k (given s piece) ≡ take h.0 (given s xs) =
        ap (λ (bs : List ℕ). take k (given s bs)) (sym whole) ∙ ap (take k) (given-append s xs ys)
        ∙ take-append-le k (given s xs) (given (after s xs) ys) (omega arith) ∙ take-min h.0 (given s xs) in
        (k, h.1 ∙ ap (λ (l : List Rec). old ++ l) (sym e))

    -- what stands behind the front gives none
    none_behind : given (after s xs) ys ≡ [] → now ≡ old ++ given s xs → now ≡ old ++ given s piece
    none_behind none g =
        g ∙ ap (λ (l : List Rec). old ++ l) (sym (ap (given s) (sym whole) ∙ given-append s xs ys ∙ ap (λ (l : List Rec). given s xs ++ l) none ∙ append-nil (given s xs)))

    pub front-records : (m : Limits) (q : Progress) (f : FeedFault) → UnlessMemory (Err f) (left_by (Err f) m q ≡ after s xs)
        → UnlessMemory (Err f) (now ≡ old ++ given s xs) → UnlessMemory (Err f) (now ≡ old ++ given s piece)
    front-records m q (Line f) h g = none_behind (ap (λ (r : Reading). given r ys) (sym h) ∙ given-refused m.line m.input (Line f) ys) g
    front-records m q NoMemory h g = tt

    pub full-records : (m : Limits) (q : Progress) → reading_of m q ≡ after s xs → m.input ≤ q.taken → 1 ≤ length ys
        → now ≡ old ++ given s xs → now ≡ old ++ given s piece
    full-records m q read full some g = none_behind (ap (λ (r : Reading). given r ys) (sym read) ∙ (after-full m q ys full some).records) g

-- what a loop over the lines of a piece has passed: no records are made of those that were due
pub record HasPassed (s : Reading) (piece : List ℕ) (now_s : Reading) (left : List ℕ) : Type 0 where
  pub due : List Rec
  pub read : HasRead s piece [] now_s left due

pub HasPassed-nothing : (s : Reading) (piece : List ℕ) → HasPassed s piece s piece
HasPassed-nothing s piece = record { due = []; read = HasRead-nothing s piece [] }

pub HasPassed-EndsLine : (s : Reading) (piece : List ℕ) (m : Limits) (p q : Progress) (part rest left : List ℕ)
    → HasPassed s piece (reading_of m p) left → left ≡ part ++ 10 ∷ rest → Lacks 10 part → EndsLine m p q part → HasPassed s piece (reading_of m q) rest
HasPassed-EndsLine s piece m p q part rest left h is clean e =
    let more = h.due ++ cut 9 (p.line.items ++ part) ∷ [] in
    record { due = more; read = HasRead-EndsLine s piece [] h.due more m p q part rest left h.read is clean e refl }
