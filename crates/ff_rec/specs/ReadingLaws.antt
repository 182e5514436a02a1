-- However a text is cut into pieces, what is read is the same.
use Rattle.std.specs.Prelude.{◌≡◌, ℕ, List, [], ◌∷◌, ◌++◌, refl}
use Rattle.std.proofs.Common.{sym, ap, ◌∙◌, append_assoc}
use Rattle.ff_rec.specs.Lines.{Rec}
use Rattle.ff_rec.specs.Reading.{Reading, next, gives, after, given}

-- the state behind two pieces
pub after-append : (s : Reading) (xs ys : List ℕ) → after s (xs ++ ys) ≡ after (after s xs) ys
after-append s [] ys = refl
after-append s (x ∷ xs) ys = after-append (next s.fault s x) xs ys

-- the records of two pieces
pub given-append : (s : Reading) (xs ys : List ℕ) → given s (xs ++ ys) ≡ given s xs ++ given (after s xs) ys
given-append s [] ys = refl
given-append s (x ∷ xs) ys =
    ap (λ (rs : List Rec). gives s.fault s x ++ rs) (given-append (next s.fault s x) xs ys)
    ∙ sym (append_assoc (gives s.fault s x) (given (next s.fault s x) xs) (given (after (next s.fault s x) xs) ys))
