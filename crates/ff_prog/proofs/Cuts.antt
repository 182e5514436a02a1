-- The first word of a statement, and what stands behind it.
use Rattle.std.proofs.Common.{◌≡◌, ◌≢◌, ℕ, suc, ◌+◌, ◌-◌, ◌<◌, Bool, true, false, not, ◌||◌, List, [], ◌∷◌, length, get_or, take, drop, refl, sym, ap, ◌∙◌, arith, one-add, length-drop, eq-eqb, ne_eqb}
use Rattle.std.specs.Prelude.{◌==◌}
use Rattle.std.proofs.lemmas.Bool.{cond-true, cond-false}
use Rattle.std.proofs.lemmas.List.{take_all}
use Rattle.std.specs.List.{prefix_len}
use Rattle.ff_rec.specs.Lines.{onto_first}
use Rattle.ff_prog.specs.Words.{words, joined, is_space, is_in_word}
use Rattle.ff_prog.specs.Seen.{IsWordFirst}

-- a run that goes on, and one that ends
run-more : (p : ℕ → Bool) (b : ℕ) (bs : List ℕ) → p b ≡ true → prefix_len p (b ∷ bs) ≡ suc (prefix_len p bs)
run-more p b bs e = cond-true (p b) (1 + prefix_len p bs) 0 e ∙ one-add (prefix_len p bs)

run-end : (p : ℕ → Bool) (b : ℕ) (bs : List ℕ) → p b ≡ false → prefix_len p (b ∷ bs) ≡ 0
run-end p b bs e = cond-false (p b) (1 + prefix_len p bs) 0 e

-- neither of two
neither : (s e : Bool) → s ≡ false → e ≡ false → not (s || e) ≡ true
neither s e hs he = rw (hs, he) refl

both_no : (s e : Bool) → not (s || e) ≡ true → (s ≡ false) × (e ≡ false)
both_no false false h = (refl, refl)
both_no false true h = cc
both_no true e h = cc

-- the spaces at the front count for nothing
spaces-front : (b : ℕ) (bs : List ℕ) (t : Bool) → is_space b ≡ t → (words bs ≡ words (drop (prefix_len is_space bs) bs)) × IsWordFirst (drop (prefix_len is_space bs) bs) → (words (b ∷ bs) ≡ words (drop (prefix_len is_space (b ∷ bs)) (b ∷ bs))) × IsWordFirst (drop (prefix_len is_space (b ∷ bs)) (b ∷ bs))
spaces-front b bs true e h = rw (run-more is_space b bs e) (cond-true (is_space b) _ _ e ∙ h.0, h.1)
spaces-front b bs false e h = rw (run-end is_space b bs e) (refl, e)

pub spaces : (bs : List ℕ) → (words bs ≡ words (drop (prefix_len is_space bs) bs)) × IsWordFirst (drop (prefix_len is_space bs) bs)
spaces [] = (refl, tt)
spaces (b ∷ bs) = spaces-front b bs (is_space b) refl (spaces bs)

-- all bytes from a place on
pub take-behind : (at : ℕ) (bs : List ℕ) → take (length bs - at) (drop at bs) ≡ drop at bs
take-behind at bs = take_all (length bs - at) (drop at bs) (omega (arith, length-drop at bs))

-- `=` at the front
pub equal-front : (bs : List ℕ) → IsWordFirst bs → 0 < length bs → get_or bs 0 0 ≡ 61 → words bs ≡ take 1 bs ∷ words (drop 1 bs)
equal-front [] first some e = absurd (omega arith)
equal-front (b ∷ bs) first some e = cond-false (is_space b) _ _ first ∙ cond-true (b == 61) _ _ (eq-eqb b 61 e) ∙ ap (λ c. (c ∷ []) ∷ words bs) (sym e)

-- another word at the front: its first byte stands before those of the run behind
run-next : (b c : ℕ) (cs : List ℕ) (t : Bool) → is_in_word c ≡ t → (t ≡ true → words (c ∷ cs) ≡ take (prefix_len is_in_word (c ∷ cs)) (c ∷ cs) ∷ words (drop (prefix_len is_in_word (c ∷ cs)) (c ∷ cs)))
    → joined b (c ∷ cs) (words (c ∷ cs)) ≡ (b ∷ take (prefix_len is_in_word (c ∷ cs)) (c ∷ cs)) ∷ words (drop (prefix_len is_in_word (c ∷ cs)) (c ∷ cs))
run-next b c cs true e h = cond-true (is_in_word c) _ _ e ∙ ap (onto_first b) (h refl)
run-next b c cs false e h = cond-false (is_in_word c) _ _ e ∙ rw (run-end is_in_word c cs e) refl

run-words : (b : ℕ) (bs : List ℕ) → is_space b ≡ false → (b == 61) ≡ false → words (b ∷ bs) ≡ take (prefix_len is_in_word (b ∷ bs)) (b ∷ bs) ∷ words (drop (prefix_len is_in_word (b ∷ bs)) (b ∷ bs))
run-words b [] s e = cond-false (is_space b) _ _ s ∙ cond-false (b == 61) _ _ e ∙ rw (run-more is_in_word b [] (neither _ _ s e)) refl
run-words b (c ∷ cs) s e =
    cond-false (is_space b) _ _ s
    ∙ cond-false (b == 61) _ _ e
    ∙ run-next b c cs (is_in_word c) refl (λ h. let no = both_no (is_space c) (c == 61) h in run-words c cs no.0 no.1)
    ∙ rw (run-more is_in_word b (c ∷ cs) (neither _ _ s e)) refl

pub word-front : (bs : List ℕ) → IsWordFirst bs → 0 < length bs → get_or bs 0 0 ≢ 61 → words bs ≡ take (prefix_len is_in_word bs) bs ∷ words (drop (prefix_len is_in_word bs) bs)
word-front [] first some e = absurd (omega arith)
word-front (b ∷ bs) first some e = run-words b bs first (ne_eqb b 61 e)
