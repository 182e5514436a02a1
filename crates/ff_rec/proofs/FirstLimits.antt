-- The first limit that a text passes, from a place on.
use Rattle.std.proofs.Common.{◌≡◌, ◌≢◌, ℕ, zero, suc, ◌+◌, ◌-◌, ◌<◌, ◌≤◌, Bool, true, false, ltb, eqb, cond, List, [], ◌∷◌, ◌++◌, length, take, take_all, Option, None, Some, refl, sym, ap, ◌∙◌, arith, append_assoc, lt-ltb, eqb-true, eq-eqb}
use Rattle.std.proofs.lemmas.Bool.{cond_both, cond-true, cond-false, ltb-false, le-ltb, both_ways}
use Rattle.std.proofs.Math.Dec.{leb-suc-suc}
use Rattle.std.proofs.lemmas.List.{append-nil}
use Rattle.std.specs.List.{AllByRecursion}
use Rattle.ff_rec.specs.declared.fault.LineFault.{LineFault}
use Rattle.ff_rec.specs.declared.fault.LineFault.TheVariants.{TooLong, TooManyFields, InputTooLong}
use Rattle.ff_rec.specs.Lines.{without_empty_last, lines}
use Rattle.ff_rec.specs.Limits.{or_later, lines_fault, input_fault, IsWithin, LimitLaw}
use Rattle.ff_rec.specs.Pieces.{Lacks}
use Rattle.ff_rec.specs.Reading.{line_fault}
use Rattle.ff_rec.proofs.Cuts.{cut-Lacks}
use Rattle.ff_rec.proofs.LineLimits.{IsWithin-none, line_fault-append, line_fault-within, line_fault-cases, Lacks-append}
use Rattle.ff_rec.proofs.WholeLines.{lines-newline}

-- its limits are those of the only line
lines_fault-line : (l n : ℕ) (line : List ℕ) → Lacks 10 line → line_fault l n line ≡ None → lines_fault l n (lines line) ≡ None
lines_fault-line l n [] clean fits = refl
lines_fault-line l n (c ∷ cs) clean fits =
    ap (λ (ps : List (List ℕ)). lines_fault l n (without_empty_last ps)) (cut-Lacks 10 (c ∷ cs) clean) ∙ ap (λ (o : Option LineFault). or_later o None) fits

-- a first line that passes a limit, whatever stands behind it
lines_fault-first : (l n : ℕ) (line rest : List ℕ) (f : LineFault) → Lacks 10 line → line_fault l n line ≡ Some f → lines_fault l n (lines (line ++ rest)) ≡ Some f
lines_fault-first l n [] rest f clean is = let e : line_fault l n [] ≡ None = line_fault-within l n [] (omega arith) (omega arith) in cc
lines_fault-first l n (b ∷ bs) [] f clean is =
    ap (λ (line : List ℕ). lines_fault l n (lines line)) (append-nil (b ∷ bs))
    ∙ ap (λ (ps : List (List ℕ)). lines_fault l n (without_empty_last ps)) (cut-Lacks 10 (b ∷ bs) clean)
    ∙ ap (λ (o : Option LineFault). or_later o None) is
lines_fault-first l n (b ∷ bs) (c ∷ cs) f clean is =
    by (eqb c 10) refl
    (λ other. lines_fault-first l n ((b ∷ bs) ++ c ∷ []) cs f (Lacks-append 10 (b ∷ bs) (c ∷ []) clean (other, tt)) (line_fault-append l n (b ∷ bs) (c ∷ []) f is))
  where
    by : (e : Bool) → eqb c 10 ≡ e
        → (c ≢ 10 → lines_fault l n (lines (((b ∷ bs) ++ c ∷ []) ++ cs)) ≡ Some f)
        → lines_fault l n (lines ((b ∷ bs) ++ c ∷ cs)) ≡ Some f
    by true newline more =
        ap (λ k. lines_fault l n (lines ((b ∷ bs) ++ k ∷ cs))) (eqb-true c 10 newline)
        ∙ ap (lines_fault l n) (lines-newline (b ∷ bs) cs clean)
        ∙ ap (λ (o : Option LineFault). or_later o (lines_fault l (n + 1) (lines cs))) is
    by false other more =
        ap (λ (line : List ℕ). lines_fault l n (lines line)) (sym (append_assoc (b ∷ bs) (c ∷ []) cs))
        ∙ more (λ is10. both_ways (eqb c 10) other (eq-eqb c 10 is10))

-- no line before number `n` is named
abbrev pub IsFrom : ℕ → Option LineFault → Type 0
IsFrom n None = Unit {0}
IsFrom n (Some (TooLong m)) = n ≤ m
IsFrom n (Some (TooManyFields m)) = n ≤ m
IsFrom n (Some InputTooLong) = Unit {0}

pub IsFrom-less : (n k : ℕ) (o : Option LineFault) → n ≤ k → IsFrom k o → IsFrom n o
IsFrom-less n k None le h = tt
IsFrom-less n k (Some (TooLong m)) le h = omega arith
IsFrom-less n k (Some (TooManyFields m)) le h = omega arith
IsFrom-less n k (Some InputTooLong) le h = tt

pub IsFrom-or_later : (n : ℕ) (o later : Option LineFault) → IsFrom n o → IsFrom n later → IsFrom n (or_later o later)
IsFrom-or_later n None later h g = g
IsFrom-or_later n (Some f) later h g = h

pub IsFrom-lines_fault : (l n : ℕ) (ls : List (List ℕ)) → IsFrom n (lines_fault l n ls)
IsFrom-lines_fault l n [] = tt
IsFrom-lines_fault l n (line ∷ others) =
    IsFrom-or_later n (line_fault l n line) (lines_fault l (n + 1) others)
    (line_fault-cases l n line (IsFrom n) (λ h. omega arith) (λ h g. omega arith) (λ h g. tt))
    (IsFrom-less n (n + 1) (lines_fault l (n + 1) others) (omega arith) (IsFrom-lines_fault l (n + 1) others))

pub IsFrom-input_fault : (n room : ℕ) (b : List ℕ) → IsFrom n (input_fault room b)
IsFrom-input_fault n room b = by (ltb room (length b))
  where
    by : (e : Bool) → IsFrom n (cond e (Some InputTooLong) None)
    by true = tt
    by false = tt

-- the first limit that a text passes from a place on
abbrev pub first_limit : ℕ → ℕ → ℕ → ℕ → List ℕ → List ℕ → Option LineFault
first_limit l i t n line b = or_later (lines_fault l (n + 1) (lines (line ++ take (i - t) b))) (input_fault (i - t) b)

take-nil : (k : ℕ) → take {A = ℕ} k [] ≡ []
take-nil zero = refl
take-nil (suc k) = refl

-- nothing is left: no limit
pub first_limit-end : (l i t n : ℕ) (line : List ℕ) → Lacks 10 line → line_fault l (n + 1) line ≡ None → first_limit l i t n line [] ≡ None
first_limit-end l i t n line clean fits =
    ap (λ (bs : List ℕ). or_later (lines_fault l (n + 1) (lines (line ++ bs))) (input_fault (i - t) [])) (take-nil (i - t))
    ∙ ap (λ (bs : List ℕ). or_later (lines_fault l (n + 1) (lines bs)) (input_fault (i - t) [])) (append-nil line)
    ∙ ap (λ (o : Option LineFault). or_later o (input_fault (i - t) [])) (lines_fault-line l (n + 1) line clean fits)
    ∙ cond-false _ _ _ (le-ltb (i - t) 0 (omega arith))

-- no room is left: the limit of the input
pub first_limit-full : (l i t n : ℕ) (line : List ℕ) (c : ℕ) (cs : List ℕ) → i ≤ t → Lacks 10 line → line_fault l (n + 1) line ≡ None
    → first_limit l i t n line (c ∷ cs) ≡ Some InputTooLong
first_limit-full l i t n line c cs full clean fits =
    let e : i - t ≡ 0 = omega arith in
    ap (λ k. or_later (lines_fault l (n + 1) (lines (line ++ take k (c ∷ cs)))) (input_fault k (c ∷ cs))) e
    ∙ ap (λ (bs : List ℕ). or_later (lines_fault l (n + 1) (lines bs)) (input_fault 0 (c ∷ cs))) (append-nil line)
    ∙ ap (λ (o : Option LineFault). or_later o (input_fault 0 (c ∷ cs))) (lines_fault-line l (n + 1) line clean fits)
    ∙ cond-true _ _ _ (lt-ltb 0 (length (c ∷ cs)) (omega arith))

input_fault-more : (room : ℕ) (c : ℕ) (cs : List ℕ) → input_fault (suc room) (c ∷ cs) ≡ input_fault room cs
input_fault-more room c cs = ap (λ b. cond b (Some InputTooLong) None) (leb-suc-suc (suc room) (length cs))

-- there is room for a byte
first_limit-room : (l i t n : ℕ) (line : List ℕ) (c : ℕ) (cs : List ℕ) → t < i
    → first_limit l i t n line (c ∷ cs) ≡ or_later (lines_fault l (n + 1) (lines (line ++ c ∷ take (i - (t + 1)) cs))) (input_fault (i - (t + 1)) cs)
first_limit-room l i t n line c cs room =
    let e : i - t ≡ suc (i - (t + 1)) = omega arith in
    ap (λ k. or_later (lines_fault l (n + 1) (lines (line ++ take k (c ∷ cs)))) (input_fault k (c ∷ cs))) e
    ∙ ap (or_later (lines_fault l (n + 1) (lines (line ++ c ∷ take (i - (t + 1)) cs)))) (input_fault-more (i - (t + 1)) c cs)

pub first_limit-newline : (l i t n : ℕ) (line cs : List ℕ) → t < i → Lacks 10 line → line_fault l (n + 1) line ≡ None
    → first_limit l i t n line (10 ∷ cs) ≡ first_limit l i (t + 1) (n + 1) [] cs
first_limit-newline l i t n line cs room clean fits =
    let rest = take (i - (t + 1)) cs in
    first_limit-room l i t n line 10 cs room
    ∙ ap (λ (ls : List (List ℕ)). or_later (lines_fault l (n + 1) ls) (input_fault (i - (t + 1)) cs)) (lines-newline line rest clean)
    ∙ ap (λ (o : Option LineFault). or_later (or_later o (lines_fault l (n + 1 + 1) (lines rest))) (input_fault (i - (t + 1)) cs)) fits

pub first_limit-other : (l i t n : ℕ) (line : List ℕ) (c : ℕ) (cs : List ℕ) → t < i
    → first_limit l i t n line (c ∷ cs) ≡ first_limit l i (t + 1) n (line ++ c ∷ []) cs
first_limit-other l i t n line c cs room =
    let rest = take (i - (t + 1)) cs in
    first_limit-room l i t n line c cs room
    ∙ ap (λ (bs : List ℕ). or_later (lines_fault l (n + 1) (lines bs)) (input_fault (i - (t + 1)) cs)) (sym (append_assoc line (c ∷ []) rest))

pub first_limit-fault : (l i t n : ℕ) (line : List ℕ) (c : ℕ) (cs : List ℕ) (f : LineFault) → t < i → Lacks 10 line → c ≢ 10
    → line_fault l (n + 1) (line ++ c ∷ []) ≡ Some f → first_limit l i t n line (c ∷ cs) ≡ Some f
first_limit-fault l i t n line c cs f room clean other is =
    first_limit-other l i t n line c cs room
    ∙ ap (λ (o : Option LineFault). or_later o (input_fault (i - (t + 1)) cs))
    (lines_fault-first l (n + 1) (line ++ c ∷ []) (take (i - (t + 1)) cs) f (Lacks-append 10 line (c ∷ []) clean (other, tt)) is)

-- lines that are within the limits pass none
lines_fault-All : (l n : ℕ) (ls : List (List ℕ)) → AllByRecursion (IsWithin l) ls → lines_fault l n ls ≡ None
lines_fault-All l n [] all = refl
lines_fault-All l n (line ∷ others) all =
    ap (λ (o : Option LineFault). or_later o (lines_fault l (n + 1) others)) (line_fault-within l n line all.0.few all.0.short)
    ∙ lines_fault-All l (n + 1) others all.1

or_later-first : (o later : Option LineFault) → or_later o later ≡ None → o ≡ None
or_later-first None later is = refl
or_later-first (Some f) later is = cc

or_later-second : (o later : Option LineFault) → or_later o later ≡ None → later ≡ None
or_later-second None later is = is
or_later-second (Some f) later is = cc

All-lines_fault : (l n : ℕ) (ls : List (List ℕ)) → lines_fault l n ls ≡ None → AllByRecursion (IsWithin l) ls
All-lines_fault l n [] none = tt
All-lines_fault l n (line ∷ others) none = (
  IsWithin-none l n line (or_later-first (line_fault l n line) (lines_fault l (n + 1) others) none),
  All-lines_fault l (n + 1) others (or_later-second (line_fault l n line) (lines_fault l (n + 1) others) none),
)

input_fault-none : (most : ℕ) (b : List ℕ) → input_fault most b ≡ None → length b ≤ most
input_fault-none most b =
    cond_both (ltb most (length b)) (Some InputTooLong) None (λ o. o ≡ None → length b ≤ most) (λ e is. cc) (λ e is. ltb-false most (length b) e)

pub limit-law : LimitLaw
limit-law l i b = (
  λ none.
      let some : length b ≤ i = input_fault-none i b (or_later-second (lines_fault l 1 (lines (take i b))) (input_fault i b) none) in (
        some,
        All-lines_fault l 1 (lines b)
            (ap (λ (bs : List ℕ). lines_fault l 1 (lines bs)) (sym (take_all i b some))
            ∙ or_later-first (lines_fault l 1 (lines (take i b))) (input_fault i b) none),
      ),
  λ h.
      ap (λ (bs : List ℕ). or_later (lines_fault l 1 (lines bs)) (input_fault i b)) (take_all i b h.0)
      ∙ ap (λ (o : Option LineFault). or_later o (input_fault i b)) (lines_fault-All l 1 (lines b) h.1)
      ∙ cond-false _ _ _ (le-ltb i (length b) h.0),
)
