-- What is written for records is read as these records.
use Rattle.std.proofs.Common.{◌≡◌, ◌≢◌, ℕ, ◌≤◌, List, [], ◌∷◌, refl, ap, ap₂, ◌∙◌, append_assoc, arith}
use Rattle.std.specs.List.{AllByRecursion}
use Rattle.ff_rec.specs.Lines.{Rec, IsRec, IsPlain, IsPlainByte, cut, behind, joined, records, text}
use Rattle.ff_rec.specs.Pieces.{Lacks}
use Rattle.ff_rec.proofs.Joins.{AllByRecursion-weaker, cut-joined}
use Rattle.ff_rec.proofs.LineLimits.{Lacks-append}
use Rattle.ff_rec.proofs.WholeLines.{records-newline}

-- plain bytes hold neither separator
Lacks-tab : (field : List ℕ) → IsPlain field → Lacks 9 field
Lacks-tab field plain = AllByRecursion-weaker IsPlainByte (λ c. c ≢ 9) (λ c h. h.0) field plain

Lacks-newline : (field : List ℕ) → IsPlain field → Lacks 10 field
Lacks-newline field plain = AllByRecursion-weaker IsPlainByte (λ c. c ≢ 10) (λ c h. h.1) field plain

Lacks-behind : (fields : Rec) → AllByRecursion IsPlain fields → Lacks 10 (behind fields)
Lacks-behind [] plain = tt
Lacks-behind (field ∷ fields) plain =
    ((λ (e : 9 ≡ 10). absurd (omega arith)), Lacks-append 10 field (behind fields) (Lacks-newline field plain.0) (Lacks-behind fields plain.1))

-- a line has no newline but its last byte
pub Lacks-joined : (r : Rec) → AllByRecursion IsPlain r → Lacks 10 (joined r)
Lacks-joined [] plain = tt
Lacks-joined (field ∷ fields) plain = Lacks-append 10 field (behind fields) (Lacks-newline field plain.0) (Lacks-behind fields plain.1)

-- a record that is written is cut into its fields again
cut-record : (r : Rec) → IsRec r → cut 9 (joined r) ≡ r
cut-record [] h = absurd (let none : 1 ≤ 0 = h.some in omega arith)
cut-record (field ∷ fields) h = cut-joined field fields (Lacks-tab field h.plain.0) (AllByRecursion-weaker IsPlain (Lacks 9) Lacks-tab fields h.plain.1)

pub records-text : (xs : List Rec) → AllByRecursion IsRec xs → records (text xs) ≡ xs
records-text [] h = refl
records-text (x ∷ xs) h =
    ap records (append_assoc (joined x) (10 ∷ []) (text xs))
    ∙ records-newline (joined x) (text xs) (Lacks-joined x h.0.plain)
    ∙ ap₂ (λ (r : Rec) (rs : List Rec). r ∷ rs) (cut-record x h.0) (records-text xs h.1)
