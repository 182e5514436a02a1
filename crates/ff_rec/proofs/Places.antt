-- Where a piece stands in a block, and what the block is after a piece was replaced.
use Rattle.std.proofs.Common.{◌≡◌, ℕ, suc, zero, ◌+◌, ◌-◌, ◌<◌, ◌≤◌, List, [], ◌∷◌, ◌++◌, Option, Some, None, Result, Ok, Err, length, take, drop, set, get_or, refl, sym, ap, ap₂, ◌∙◌, subst, append_assoc, arith, length-append, length-drop, take_all, take-append-drop, inl, inr}
use Rattle.std.specs.List.{AllByRecursion}
use Rattle.std.specs.Result.{OnOk, OnErr}
use Rattle.std.proofs.lemmas.Bool.{cases_lt}
use Rattle.std.proofs.lemmas.List.{append-nil, drop-drop, drop_more, length-take-le, drop_at, take_at, set_split, length-set}
use Rattle.std.proofs.Math.Seq.{take-add}
use Rattle.ff_rec.specs.Lines.{IsPlain, IsRec, cut, tabs, behind, joined}
use Rattle.ff_rec.specs.Pieces.{Lacks}
use Rattle.ff_rec.specs.Block.{IsBlock, IsStart, IsPlace, IsFieldEnd, before}
use Rattle.ff_rec.specs.Stored.{Stored, stored_as}
use Rattle.ff_rec.proofs.Cuts.{cut-Lacks, cut-split}
use Rattle.ff_rec.proofs.Joins.{HasFirst-cut, behind-is, joined-cut, cut-append, cut-joined, cut-before, Lacks-cut, Lacks-IsPlain, cut-IsPlain, IsPlain-cut, length-cut}

-- the first piece begins at the front
pub IsStart-first : (b : List ℕ) → IsStart b 0 0
IsStart-first b = record { within = omega arith; front = refl; rest = refl }

pub before-append : (fs gs : List (List ℕ)) → before (fs ++ gs) ≡ before fs ++ before gs
before-append [] gs = refl
before-append (f ∷ fs) gs = ap (λ (t : List ℕ). f ++ 9 ∷ t) (before-append fs gs) ∙ sym (append_assoc f (9 ∷ before fs) (before gs))

-- what stands from place `k` on tells the element there, and what stands behind it
record Splits (ps : List (List ℕ)) (k : ℕ) (f : List ℕ) (fs : List (List ℕ)) : Type 0 where
  below : k < length ps
  element : get_or ps k [] ≡ f
  rest : drop (suc k) ps ≡ fs
  upto : take (suc k) ps ≡ take k ps ++ f ∷ []

Splits-drop : (ps : List (List ℕ)) (k : ℕ) (f : List ℕ) (fs : List (List ℕ)) → drop k ps ≡ f ∷ fs → Splits ps k f fs
Splits-drop [] zero f fs e = absurd (cc)
Splits-drop [] (suc k) f fs e = absurd (cc)
Splits-drop (p ∷ ps) zero f fs e = record { below = omega arith; element = cc; rest = cc; upto = cc }
Splits-drop (p ∷ ps) (suc k) f fs e =
    let s = Splits-drop ps k f fs e in
    record { below = omega arith; element = s.element; rest = s.rest; upto = ap (λ (q : List (List ℕ)). p ∷ q) s.upto }

-- the pieces of what stands behind a tab, if one was there
abbrev pieces_of : Option (List ℕ) → List (List ℕ)
pieces_of None = []
pieces_of (Some r) = cut 9 r

-- the first piece, and the tab and the rest behind it
abbrev front_and : List ℕ → Option (List ℕ) → List ℕ
front_and front None = front
front_and front (Some r) = front ++ 9 ∷ r

-- what stands from a piece's start on: the piece, up to its end, and a rest
record Piece (b : List ℕ) (start end : ℕ) : Type 0 where
  front : List ℕ
  rest : Option (List ℕ)
  pieces : cut 9 (drop start b) ≡ front ∷ pieces_of rest
  whole : drop start b ≡ front_and front rest
  long : start + length front ≡ end

-- by where the piece ends
Piece-IsFieldEnd : (b : List ℕ) (start end : ℕ) → IsFieldEnd b start end → Piece b start end
Piece-IsFieldEnd b start end h =
    let field = take (end - start) (drop start b) in
    let long : length field ≡ end - start = length-take-le (end - start) (drop start b) (omega (arith, length-drop start b, h.order, h.within)) in
    let behind : drop (end - start) (drop start b) ≡ drop end b = drop-drop (end - start) start b ∙ ap (λ n. drop n b) (let e : start + (end - start) ≡ end = omega (arith, h.order) in e) in
    elim (cases_lt end (length b)) [
      | inl more ↦
          let whole : drop start b ≡ field ++ 9 ∷ drop (end + 1) b =
          sym (take-append-drop (end - start) (drop start b)) ∙ ap (λ q. field ++ q) (behind ∙ drop_more b end 0 more ∙ ap (λ c. c ∷ drop (end + 1) b) (h.tab more)) in
          record { front = field; rest = Some (drop (end + 1) b); pieces = ap (cut 9) whole ∙ cut-split 9 field (drop (end + 1) b) h.clean; whole = whole; long = omega (arith, long, h.order) }
      | inr all ↦
          let same : end - start ≡ length (drop start b) = omega (arith, length-drop start b, h.order, h.within) in
          let whole : drop start b ≡ field = sym (ap (λ n. take n (drop start b)) same ∙ take_all _ _ (omega arith)) in
          record { front = field; rest = None; pieces = ap (cut 9) whole ∙ cut-Lacks 9 field h.clean; whole = whole; long = omega (arith, long, h.order) }
    ]

-- a piece further on
IsStart-more : (b : List ℕ) (k start : ℕ) (front : List ℕ) (rest : Option (List ℕ)) → IsStart b k start → suc k < length (cut 9 b)
    → cut 9 (drop start b) ≡ front ∷ pieces_of rest → drop start b ≡ front_and front rest → IsStart b (suc k) (start + (length front + 1))
IsStart-more b k start front None s more pieces whole = absurd (omega (arith, length-drop k (cut 9 b), ap length (sym s.rest ∙ pieces)))
IsStart-more b k start front (Some r) s more pieces whole =
    let at = Splits-drop (cut 9 b) k front (cut 9 r) (sym s.rest ∙ pieces) in
    let shape : drop start b ≡ (front ++ 9 ∷ []) ++ r = whole ∙ sym (append_assoc front (9 ∷ []) r) in
    let long : length (front ++ 9 ∷ []) ≡ length front + 1 = length-append front (9 ∷ []) in
    let behind-it : drop (start + (length front + 1)) b ≡ r =
    sym (drop-drop (length front + 1) start b) ∙ ap (drop (length front + 1)) shape ∙ drop_at (front ++ 9 ∷ []) r (length front + 1) long in
    record {
      within = omega (arith, length-drop start b, ap length shape, length-append (front ++ 9 ∷ []) r, s.within);
      front =
          take-add start (length front + 1) b
          ∙ ap₂ ◌++◌ s.front (ap (take (length front + 1)) shape ∙ take_at (front ++ 9 ∷ []) r (length front + 1) long)
          ∙ sym (ap before at.upto ∙ before-append (take k (cut 9 b)) (front ∷ []));
      rest = ap (cut 9) behind-it ∙ sym at.rest;
    }

-- fields behind a separator
behind-rest : (rest : Option (List ℕ)) (front : List ℕ) → drop (length front) (front_and front rest) ≡ behind (pieces_of rest)
behind-rest None front = ap (drop (length front)) (sym (append-nil front)) ∙ drop_at front [] (length front) refl
behind-rest (Some r) front = drop_at front (9 ∷ r) (length front) refl ∙ sym (behind-is (cut 9 r) (HasFirst-cut 9 r) ∙ ap (λ (t : List ℕ). 9 ∷ t) (joined-cut r))

take-whole : (rest : Option (List ℕ)) (front : List ℕ) → take (length front) (front_and front rest) ≡ front
take-whole None front = ap (take (length front)) (sym (append-nil front)) ∙ take_at front [] (length front) refl
take-whole (Some r) front = take_at front (9 ∷ r) (length front) refl

length-whole : (rest : Option (List ℕ)) (front : List ℕ) → length front ≤ length (front_and front rest)
length-whole None front = omega arith
length-whole (Some r) front = omega (arith, length-append front (9 ∷ r))

-- a piece that was found
IsPlace-here : (b : List ℕ) (k start : ℕ) (front : List ℕ) (rest : Option (List ℕ)) → IsStart b k start
    → cut 9 (drop start b) ≡ front ∷ pieces_of rest → drop start b ≡ front_and front rest → IsPlace b k start (start + length front)
IsPlace-here b k start front rest s pieces whole =
    let at = Splits-drop (cut 9 b) k front (pieces_of rest) (sym s.rest ∙ pieces) in
    let long = length-whole rest front in
    let same : start + length front - start ≡ length front = omega arith in
    record {
      order = omega arith;
      within = omega (arith, length-drop start b, ap length whole, long, s.within);
      here = ap (λ (n : ℕ). take n (drop start b)) same ∙ ap (take (length front)) whole ∙ take-whole rest front ∙ sym at.element;
      front = s.front;
      back = sym (drop-drop (length front) start b) ∙ ap (drop (length front)) whole ∙ behind-rest rest front ∙ ap behind (sym at.rest);
    }

-- by where the piece ends
pub IsPlace-IsFieldEnd : (b : List ℕ) (k start end : ℕ) → IsStart b k start → IsFieldEnd b start end → IsPlace b k start end
IsPlace-IsFieldEnd b k start end s h =
    let p = Piece-IsFieldEnd b start end h in
    subst (IsPlace b k start) p.long (IsPlace-here b k start p.front p.rest s p.pieces p.whole)

pub IsStart-IsFieldEnd : (b : List ℕ) (k start end : ℕ) → IsStart b k start → suc k < length (cut 9 b) → IsFieldEnd b start end → IsStart b (suc k) (end + 1)
IsStart-IsFieldEnd b k start end s more h =
    let p = Piece-IsFieldEnd b start end h in
    let e : start + (length p.front + 1) ≡ end + 1 = omega (arith, p.long) in
    subst (IsStart b (suc k)) e (IsStart-more b k start p.front p.rest s more p.pieces p.whole)

-- a single piece is all bytes
joined-one : (ps : List (List ℕ)) (bs : List ℕ) → length ps ≡ 1 → joined ps ≡ bs → ps ≡ bs ∷ []
joined-one [] bs one e = absurd (omega (arith, one))
joined-one (p ∷ []) bs one e = ap (λ (q : List ℕ). q ∷ []) (sym (append-nil p) ∙ e)
joined-one (p ∷ q ∷ ps) bs one e = absurd (omega (arith, one))

-- the last piece
pub IsPlace-last : (b : List ℕ) (k start : ℕ) → IsStart b k start → suc k ≡ length (cut 9 b) → IsPlace b k start (length b)
IsPlace-last b k start s last =
    let field = drop start b in
    let one : length (cut 9 field) ≡ 1 = omega (arith, ap length s.rest, length-drop k (cut 9 b), last) in
    let end : start + length field ≡ length b = omega (arith, length-drop start b, s.within) in
    subst (IsPlace b k start) end (IsPlace-here b k start field None s (joined-one (cut 9 field) field one (joined-cut field)) refl)

pub AllByRecursion-take : {X : Type 0} (P : X → Type 0) (n : ℕ) (xs : List X) → AllByRecursion P xs → AllByRecursion P (take n xs)
AllByRecursion-take P zero xs h = tt
AllByRecursion-take P (suc n) [] h = tt
AllByRecursion-take P (suc n) (x ∷ xs) h = (h.0, AllByRecursion-take P n xs h.1)

pub AllByRecursion-drop : {X : Type 0} (P : X → Type 0) (n : ℕ) (xs : List X) → AllByRecursion P xs → AllByRecursion P (drop n xs)
AllByRecursion-drop P zero xs h = h
AllByRecursion-drop P (suc n) [] h = tt
AllByRecursion-drop P (suc n) (x ∷ xs) h = AllByRecursion-drop P n xs h.1

pub AllByRecursion-set : {X : Type 0} (P : X → Type 0) (xs : List X) (n : ℕ) (x : X) → P x → AllByRecursion P xs → AllByRecursion P (set xs n x)
AllByRecursion-set P [] n y h hs = tt
AllByRecursion-set P (x ∷ xs) zero y h hs = (h, hs.1)
AllByRecursion-set P (x ∷ xs) (suc n) y h hs = (hs.0, AllByRecursion-set P xs n y h hs.1)

AllByRecursion-push : {X : Type 0} (P : X → Type 0) (xs : List X) (x : X) → P x → AllByRecursion P xs → AllByRecursion P (xs ++ x ∷ [])
AllByRecursion-push P [] y h hs = (h, tt)
AllByRecursion-push P (x ∷ xs) y h hs = (hs.0, AllByRecursion-push P xs y h hs.1)

-- plain bytes in the place of a piece change just that piece
pub cut-replaced : (b : List ℕ) (k start end : ℕ) (f : List ℕ) → IsPlace b k start end → k < length (cut 9 b) → IsPlain f
    → cut 9 (take start b ++ (f ++ drop end b)) ≡ set (cut 9 b) k f
cut-replaced b k start end f p below plain =
    let ps = cut 9 b in
    let clean = Lacks-cut 9 b in
    ap₂ (λ (x y : List ℕ). cut 9 (x ++ (f ++ y))) p.front p.back
    ∙ cut-before (take k ps) (f ++ behind (drop (suc k) ps)) (AllByRecursion-take (Lacks 9) k ps clean)
    ∙ ap (λ (q : List (List ℕ)). take k ps ++ q) (cut-joined f (drop (suc k) ps) (Lacks-IsPlain f plain) (AllByRecursion-drop (Lacks 9) (suc k) ps clean))
    ∙ sym (set_split ps k f below)

-- and the block stays one
pub IsBlock-set : (b c : List ℕ) (n k : ℕ) (f : List ℕ) → IsBlock b n → cut 9 c ≡ set (cut 9 b) k f → IsPlain f → IsBlock c n
IsBlock-set b c n k f h e plain = record {
  counted = h.counted ∙ sym (ap length e ∙ length-set (cut 9 b) k f);
  few = subst (λ (m : ℕ). m ≤ 64) (sym (ap length e ∙ length-set (cut 9 b) k f)) h.few;
  plain = subst (AllByRecursion IsPlain) (sym e) (AllByRecursion-set IsPlain (cut 9 b) k f plain h.plain);
}

-- and it stays one whether memory was there or not
pub IsBlock-put : {E : Type 0} (r : Result (Unit {0}) E) (b c : Stored) (bytes : List ℕ) (k : ℕ) (f : List ℕ) → IsBlock b.items b.count → IsPlain f
    → cut 9 bytes ≡ set (cut 9 b.items) k f → OnOk r (c ≡ stored_as bytes b.count) → OnErr r (c ≡ b) → IsBlock c.items c.count
IsBlock-put (Ok u) b c bytes k f h plain e ok err = subst (λ (q : Stored). IsBlock q.items q.count) (sym ok) (IsBlock-set b.items bytes b.count k f h e plain)
IsBlock-put (Err e) b c bytes k f h plain is ok err = subst (λ (q : Stored). IsBlock q.items q.count) (sym err) h

-- plain bytes behind a tab are a last piece
pub cut-pushed : (b f : List ℕ) → IsPlain f → cut 9 (b ++ 9 ∷ f) ≡ cut 9 b ++ f ∷ []
cut-pushed b f plain = cut-append 9 b f ∙ ap (λ (q : List (List ℕ)). cut 9 b ++ q) (cut-IsPlain f plain)

-- and where there is room for one more field, the block stays one
pub IsBlock-push : (b f : List ℕ) (n : ℕ) → IsBlock b n → n < 64 → IsPlain f → IsBlock (b ++ 9 ∷ f) (n + 1)
IsBlock-push b f n h room plain =
    let e = cut-pushed b f plain in
    let long = ap length e ∙ length-append (cut 9 b) (f ∷ []) in
    record {
      counted = omega (arith, long, h.counted);
      few = omega (arith, long, h.counted);
      plain = subst (AllByRecursion IsPlain) (sym e) (AllByRecursion-push IsPlain (cut 9 b) f plain h.plain);
    }

-- what a block says to callers
pub IsRec-block : (b : List ℕ) (n : ℕ) → IsBlock b n → IsRec (cut 9 b)
IsRec-block b n h = record {
  some = omega (arith, ap length (HasFirst-cut 9 b).is);
  few = h.few;
  plain = h.plain;
}

-- a line with few tabs is a block
pub IsBlock-line : (b : List ℕ) (n : ℕ) → Lacks 10 b → n ≡ tabs b → n < 64 → IsBlock b (n + 1)
IsBlock-line b n clean is few = record {
  counted = omega (arith, length-cut b);
  few = omega (arith, length-cut b);
  plain = IsPlain-cut b clean;
}

-- a field is a block
pub IsBlock-field : (f : List ℕ) → IsPlain f → IsBlock f 1
IsBlock-field f plain = let e = cut-IsPlain f plain in record {
  counted = sym (ap length e);
  few = omega (arith, ap length e);
  plain = subst (AllByRecursion IsPlain) (sym e) (plain, tt);
}
