-- The words of what is left of a field.
use Rattle.std.proofs.Common.{◌≡◌, ℕ, ◌+◌, List, [], ◌∷◌, ◌++◌, map, length, Option, None, Some, refl, sym, ap, ◌∙◌, subst, Bool, false, ◌==◌}
use Rattle.std.proofs.lemmas.Bool.{true≢false}
use Rattle.std.specs.List.{filter}
use Rattle.std.specs.Borrow.{Bor}
use Rattle.ff_rec.specs.Lines.{Rec, IsPlain, cut}
use Rattle.ff_rec.specs.Pieces.{rest_cut, whole_of}
use Rattle.ff_node.specs.Sends.{Sent, add}
use Rattle.ff_node.proofs.SendsLaws.{add-add}
use Rattle.ff_ops.specs.FieldOps.{is_some_word}

-- the records of words
abbrev pub each_word : List (List ℕ) → List Rec
each_word pieces = map (λ word. word ∷ []) (filter is_some_word pieces)

-- the records of the words that are left
abbrev pub words_left : Option (Bor (List ℕ)) → List Rec
words_left rest = each_word (rest_cut 32 rest)

-- what is left is plain
abbrev pub IsPlainRest : Option (Bor (List ℕ)) → Type 0
IsPlainRest None = Unit {0}
IsPlainRest (Some rest) = IsPlain rest.now

-- how much is left
abbrev pub rest_size : Option (Bor (List ℕ)) → ℕ
rest_size None = 0
rest_size (Some rest) = length rest.now + 1

-- one send after others
pub add-send : (s : Sent) (xs ys : List Rec) → add (add s xs []) ys [] ≡ add s (xs ++ ys) []
add-send s xs ys = add-add s xs [] ys []

-- any other piece is one
pub each_word-word : (word bytes : List ℕ) (behind : Option (Bor (List ℕ))) → cut 32 bytes ≡ word ∷ rest_cut 32 behind → (word ≡ [] → ⊥) → each_word (cut 32 bytes) ≡ (word ∷ []) ∷ words_left behind
each_word-word [] bytes behind is some = absurd (some refl)
each_word-word (c ∷ cs) bytes behind is some = ap each_word is

IsPlain-front : (xs ys : List ℕ) → IsPlain (xs ++ ys) → IsPlain xs
IsPlain-front [] ys h = tt
IsPlain-front (x ∷ xs) ys h = (h.0, IsPlain-front xs ys h.1)

IsPlain-back : (xs ys : List ℕ) → IsPlain (xs ++ ys) → IsPlain ys
IsPlain-back [] ys h = h
IsPlain-back (x ∷ xs) ys h = IsPlain-back xs ys h.1

-- the first piece of plain bytes is plain
pub IsPlain-piece : (word bytes : List ℕ) (behind : Option (Bor (List ℕ))) → bytes ≡ whole_of 32 word behind → IsPlain bytes → IsPlain word
IsPlain-piece word bytes None is h = subst IsPlain is h
IsPlain-piece word bytes (Some rest) is h = IsPlain-front word (32 ∷ rest.now) (subst IsPlain is h)

-- so is the rest
pub IsPlainRest-behind : (word bytes : List ℕ) (behind : Option (Bor (List ℕ))) → bytes ≡ whole_of 32 word behind → IsPlain bytes → IsPlainRest behind
IsPlainRest-behind word bytes None is h = tt
IsPlainRest-behind word bytes (Some rest) is h = (IsPlain-back word (32 ∷ rest.now) (subst IsPlain is h)).1

-- a word that was sent is no longer left
pub words_left-sent : (out new : Sent) (word bytes : List ℕ) (behind : Option (Bor (List ℕ))) (r : Rec) → cut 32 bytes ≡ word ∷ rest_cut 32 behind → (word ≡ [] → ⊥) → r ≡ word ∷ [] → new ≡ add out (r ∷ []) [] → add new (words_left behind) [] ≡ add out (each_word (cut 32 bytes)) []
words_left-sent out new word bytes behind r is some one sent =
    ap (λ (n : Sent). add n (words_left behind) []) (sent ∙ ap (λ (x : Rec). add out (x ∷ []) []) one)
    ∙ add-send out ((word ∷ []) ∷ []) (words_left behind)
    ∙ ap (λ (ws : List Rec). add out ws []) (sym (each_word-word word bytes behind is some))

-- bytes of which a test says that there are some
pub is_empty-false : (word : List ℕ) (test : Bool) → test ≡ (length word == 0) → test ≡ false → word ≡ [] → ⊥
is_empty-false [] test is told empty = true≢false (sym is ∙ told)
is_empty-false (c ∷ cs) test is told empty = absurd (cc)
