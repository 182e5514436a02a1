-- The lines of a text by its first newline, and the records of a text that goes on.
use Rattle.std.proofs.Common.{◌≡◌, ◌≢◌, ℕ, ◌-◌, Bool, true, false, eqb, List, [], ◌∷◌, ◌++◌, take, drop, take-append-drop, map, Option, None, Some, refl, sym, ap, ◌∙◌, subst, append_assoc, eqb-true, eq-eqb}
use Rattle.std.proofs.lemmas.Bool.{both_ways}
use Rattle.std.proofs.lemmas.List.{append-nil}
use Rattle.ff_rec.specs.declared.fault.LineFault.{LineFault}
use Rattle.ff_rec.specs.declared.fault.LineFault.TheVariants.{TooLong, TooManyFields, InputTooLong}
use Rattle.ff_rec.specs.Lines.{Rec, cut, without_last, without_empty_last, lines, whole_lines, records, whole}
use Rattle.ff_rec.specs.Limits.{seen_by, IsBeginning}
use Rattle.ff_rec.specs.Pieces.{Lacks}
use Rattle.ff_rec.specs.Reading.{last_given}
use Rattle.ff_rec.proofs.Cuts.{cut-Lacks, cut-split}
use Rattle.ff_rec.proofs.Joins.{HasFirst-cut}
use Rattle.ff_rec.proofs.LineLimits.{Lacks-append}

without_empty_last-more : (p q : List ℕ) (qs : List (List ℕ)) → without_empty_last (p ∷ q ∷ qs) ≡ p ∷ without_empty_last (q ∷ qs)
without_empty_last-more [] q qs = refl
without_empty_last-more (c ∷ cs) q qs = refl

-- the lines of a line, its newline and more
pub lines-newline : (line rest : List ℕ) → Lacks 10 line → lines (line ++ 10 ∷ rest) ≡ line ∷ lines rest
lines-newline line rest clean =
    let h = HasFirst-cut 10 rest in
    ap without_empty_last (cut-split 10 line rest clean ∙ ap (λ (ps : List (List ℕ)). line ∷ ps) h.is)
    ∙ without_empty_last-more line h.first h.others
    ∙ ap (λ (ps : List (List ℕ)). line ∷ without_empty_last ps) (sym h.is)

pub whole_lines-newline : (line rest : List ℕ) → Lacks 10 line → whole_lines (line ++ 10 ∷ rest) ≡ line ∷ whole_lines rest
whole_lines-newline line rest clean =
    let h = HasFirst-cut 10 rest in
    ap without_last (cut-split 10 line rest clean ∙ ap (λ (ps : List (List ℕ)). line ∷ ps) h.is)
    ∙ ap (λ (ps : List (List ℕ)). line ∷ without_last ps) (sym h.is)

pub records-newline : (line rest : List ℕ) → Lacks 10 line → records (line ++ 10 ∷ rest) ≡ cut 9 line ∷ records rest
records-newline line rest clean = ap (map (cut 9)) (lines-newline line rest clean)

pub whole-newline : (line rest : List ℕ) → Lacks 10 line → whole (line ++ 10 ∷ rest) ≡ cut 9 line ∷ whole rest
whole-newline line rest clean = ap (map (cut 9)) (whole_lines-newline line rest clean)

-- a line without a newline
pub whole-Lacks : (line : List ℕ) → Lacks 10 line → whole line ≡ []
whole-Lacks line clean = ap (λ (ps : List (List ℕ)). map (cut 9) (without_last ps)) (cut-Lacks 10 line clean)

pub records-Lacks : (line : List ℕ) → Lacks 10 line → records line ≡ last_given line
records-Lacks [] clean = refl
records-Lacks (c ∷ cs) clean = ap (λ (ps : List (List ℕ)). map (cut 9) (without_empty_last ps)) (cut-Lacks 10 (c ∷ cs) clean)

-- the whole lines of a text are the first lines of one that goes on
whole-begins : (line xs ys : List ℕ) → Lacks 10 line → IsBeginning (whole (line ++ xs)) (records (line ++ (xs ++ ys)))
whole-begins line [] ys clean = record {
  others = records (line ++ ys);
  is = sym (ap (λ (rs : List Rec). rs ++ records (line ++ ys)) (ap whole (append-nil line) ∙ whole-Lacks line clean));
}
whole-begins line (c ∷ cs) ys clean =
    by (eqb c 10) refl (whole-begins [] cs ys tt) (λ other. whole-begins (line ++ c ∷ []) cs ys (Lacks-append 10 line (c ∷ []) clean (other, tt)))
  where
    by : (e : Bool) → eqb c 10 ≡ e → IsBeginning (whole cs) (records (cs ++ ys))
        → (c ≢ 10 → IsBeginning (whole ((line ++ c ∷ []) ++ cs)) (records ((line ++ c ∷ []) ++ (cs ++ ys))))
        → IsBeginning (whole (line ++ c ∷ cs)) (records (line ++ c ∷ (cs ++ ys)))
    by true is h more = subst (λ b. IsBeginning (whole (line ++ b ∷ cs)) (records (line ++ b ∷ (cs ++ ys)))) (sym (eqb-true c 10 is)) (record {
      others = h.others;
      is = records-newline line (cs ++ ys) clean ∙ ap (λ (rs : List Rec). cut 9 line ∷ rs) h.is
          ∙ ap (λ (rs : List Rec). rs ++ h.others) (sym (whole-newline line cs clean));
    })
    by false is h more =
        let h = more (λ is10. both_ways (eqb c 10) is (eq-eqb c 10 is10)) in
        record {
          others = h.others;
          is = ap records (sym (append_assoc line (c ∷ []) (cs ++ ys))) ∙ h.is
              ∙ ap (λ (bs : List ℕ). whole bs ++ h.others) (append_assoc line (c ∷ []) cs);
        }

first-begins : (n : ℕ) (rs : List Rec) → IsBeginning (take n rs) rs
first-begins n rs = record { others = drop n rs; is = sym (take-append-drop n rs) }

pub seen_by-begins : (o : Option LineFault) (i : ℕ) (b : List ℕ) → IsBeginning (seen_by o i b false) (records b)
seen_by-begins None i b = subst (λ (bs : List ℕ). IsBeginning (whole b) (records bs)) (append-nil b) (whole-begins [] b [] tt)
seen_by-begins (Some (TooLong n)) i b = first-begins (n - 1) (records b)
seen_by-begins (Some (TooManyFields n)) i b = first-begins (n - 1) (records b)
seen_by-begins (Some InputTooLong) i b =
    subst (λ (bs : List ℕ). IsBeginning (whole (take i b)) (records bs)) (take-append-drop i b) (whole-begins [] (take i b) (drop i b) tt)
