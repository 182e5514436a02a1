-- The text of the records is within the limits of an input, so it is read to its end, and is read as the records.
use Rattle.std.proofs.Common.{◌≡◌, ℕ, zero, suc, ◌+◌, ◌*◌, ◌%◌, ◌≤◌, eqb, List, [], ◌∷◌, ◌++◌, length, Option, None, Some, pos, refl, sym, ap, ◌∙◌, subst, append_assoc, length-append, arith}
use Rattle.std.proofs.lemmas.Bool.{cond_both}
use Rattle.std.proofs.lemmas.Fmt.{length-decimal-le}
use Rattle.std.specs.List.{AllByRecursion}
use Rattle.std.specs.Prelude.{option_map}
use Rattle.ff_rec.specs.Limits.{IsWithin, limit}
use Rattle.ff_rec.specs.Lines.{tabs, joined, line_of, lines, text}
use Rattle.ff_rec.specs.Number.{printed}
use Rattle.ff_rec.specs.Reading.{Reading, opening, after}
use Rattle.ff_rec.specs.ReadingLaws.{after-append}
use Rattle.ff_rec.specs.declared.fault.FeedFault.TheVariants.{Line}
use Rattle.ff_rec.specs.declared.fault.LineFault.{LineFault}
use Rattle.ff_rec.proofs.Feeding.{after-stays}
use Rattle.ff_rec.proofs.FirstLimits.{limit-law}
use Rattle.ff_rec.proofs.WholeLines.{lines-newline}
use Rattle.ff_rec.proofs.WholeTexts.{reading-law}
use Rattle.ff_rec.proofs.Written.{Lacks-joined}
use Rattle.ff_soak.specs.Records.{soak_record, records_behind}
use Rattle.ff_soak.proofs.Plain.{IsPlain-soak_record}

-- how long a record's line is
pub length-word : (x : ℕ) → length (printed (pos (x % 11))) ≤ 2
length-word x = length-decimal-le 2 (x % 11) (omega arith) (omega arith) (omega arith)

pub length-number : (x : ℕ) → length (printed (pos (x % 1000))) ≤ 3
length-number x = length-decimal-le 3 (x % 1000) (omega arith) (omega arith) (omega arith)

length-joined : (p q : List ℕ) → length p ≤ 2 → length q ≤ 3 → length (joined ((119 ∷ p) ∷ q ∷ [])) ≤ 7
length-joined p q few less = omega (arith, length-append (119 ∷ p) (9 ∷ (q ++ [])), length-append q [])

pub length-joined_record : (i : ℕ) → length (joined (soak_record i)) ≤ 7
length-joined_record i = length-joined (printed (pos (i * i % 11))) (printed (pos (617 * i % 1000))) (length-word (i * i)) (length-number (617 * i))

pub length-line_of : (i : ℕ) → length (line_of (soak_record i)) ≤ 8
length-line_of i = omega (arith, length-joined_record i, length-append (joined (soak_record i)) (10 ∷ []))

pub length-text : (i k : ℕ) → length (text (records_behind i k)) ≤ 8 * k
length-text i zero = omega arith
length-text i (suc k) =
    omega (arith, length-append (line_of (soak_record (suc i))) (text (records_behind (suc i) k)), length-line_of (suc i), length-text (suc i) k)

-- there are no more tabs than bytes
tabs-le-length : (bytes : List ℕ) → tabs bytes ≤ length bytes
tabs-le-length [] = omega arith
tabs-le-length (c ∷ cs) =
    cond_both (eqb c 9) 1 0 (λ k. k + tabs cs ≤ length (c ∷ cs)) (λ _. omega (arith, tabs-le-length cs)) (λ _. omega (arith, tabs-le-length cs))

-- the lines of the text
lines-text : (i k : ℕ) → lines (text (records_behind i (suc k))) ≡ joined (soak_record (suc i)) ∷ lines (text (records_behind (suc i) k))
lines-text i k =
    ap lines (append_assoc (joined (soak_record (suc i))) (10 ∷ []) (text (records_behind (suc i) k)))
    ∙ lines-newline (joined (soak_record (suc i))) (text (records_behind (suc i) k)) (Lacks-joined (soak_record (suc i)) (IsPlain-soak_record (suc i)))

All-lines : (l i k : ℕ) → 7 ≤ l → AllByRecursion (IsWithin l) (lines (text (records_behind i k)))
All-lines l i zero most = tt
All-lines l i (suc k) most =
    subst (AllByRecursion (IsWithin l)) (sym (lines-text i k)) (
      record {
        few = omega (arith, tabs-le-length (joined (soak_record (suc i))), length-joined_record (suc i));
        short = omega (arith, length-joined_record (suc i));
      },
      All-lines l (suc i) k most,
    )

-- the text passes no limit
pub limit-text : (l most n : ℕ) → 7 ≤ l → 8 * n ≤ most → limit l most (text (records_behind 0 n)) ≡ None
limit-text l most n long room = (limit-law l most (text (records_behind 0 n))).1 (omega (arith, length-text 0 n), All-lines l 0 n long)

-- nor does any front of it
pub limit-front : (l most : ℕ) (xs ys : List ℕ) → limit l most (xs ++ ys) ≡ None → limit l most xs ≡ None
limit-front l most xs ys none = by (limit l most xs) refl
  where
    by : (o : Option LineFault) → limit l most xs ≡ o → limit l most xs ≡ None
    by None is = is
    by (Some f) is =
        let s = after (opening l most) xs in
        let refused : s.fault ≡ Some (Line f) = (reading-law l most xs).fault ∙ ap (option_map Line) is in
        let stays : after (opening l most) (xs ++ ys) ≡ s = after-append (opening l most) xs ys ∙ after-stays s (Line f) ys refused in
        let whole : (after (opening l most) (xs ++ ys)).fault ≡ None = (reading-law l most (xs ++ ys)).fault ∙ ap (option_map Line) none in
        let clash : Some (Line f) ≡ None = sym refused ∙ sym (ap (λ (t : Reading). t.fault) stays) ∙ whole in
        absurd (cc)
