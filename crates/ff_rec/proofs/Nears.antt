-- Bytes whose first ones lack the separator: where the rest is cut, all are.
use Rattle.std.proofs.Common.{◌≡◌, ℕ, suc, zero, ◌+◌, ◌≤◌, List, [], ◌∷◌, ◌++◌, length, take, drop, refl, sym, ap, subst, ◌∙◌, Option, None, Some, arith}
use Rattle.std.proofs.lemmas.List.{take-append-drop, append_assoc, append-nil}
use Rattle.std.proofs.Math.Seq.{take-append_seam}
use Rattle.std.specs.Borrow.{Bor}
use Rattle.ff_rec.specs.Lines.{cut}
use Rattle.ff_rec.specs.Pieces.{Lacks, rest_cut, whole_of}
use Rattle.ff_rec.proofs.Cuts.{cut-Lacks, cut-split}

-- two parts that lack it
pub Lacks-append : (sep : ℕ) (a b : List ℕ) → Lacks sep a → Lacks sep b → Lacks sep (a ++ b)
Lacks-append sep [] b left right = right
Lacks-append sep (c ∷ cs) b left right = (left.0, Lacks-append sep cs b left.1 right)

-- the rest of a front and a whole is that of the front and the first piece
pub whole_of-front : (sep : ℕ) (front piece : List ℕ) (rest : Option (Bor (List ℕ))) → front ++ whole_of sep piece rest ≡ whole_of sep (front ++ piece) rest
whole_of-front sep front piece None = refl
whole_of-front sep front piece (Some rest) = sym (append_assoc front piece (sep ∷ rest.now))

-- a whole is cut behind its first piece
pub cut-whole_of : (sep : ℕ) (front : List ℕ) (rest : Option (Bor (List ℕ))) → Lacks sep front → cut sep (whole_of sep front rest) ≡ front ∷ rest_cut sep rest
cut-whole_of sep front None clean = cut-Lacks sep front clean
cut-whole_of sep front (Some rest) clean = cut-split sep front rest.now clean

-- a front and a part behind it are the front of as many bytes as both have
pub take-joined : (bytes : List ℕ) (n : ℕ) (piece tail : List ℕ) → n ≤ length bytes → drop n bytes ≡ piece ++ tail → take (n + length piece) bytes ≡ take n bytes ++ piece
take-joined bytes zero piece tail within e =
    let count : 0 + length piece ≡ length piece = omega arith in
    ap (λ k. take k bytes) count ∙ ap (take (length piece)) e ∙ take-append_seam piece tail
take-joined [] (suc n) piece tail within e = absurd (omega arith)
take-joined (c ∷ cs) (suc n) piece tail within e =
    let count : suc n + length piece ≡ suc (n + length piece) = omega arith in
    ap (λ k. take k (c ∷ cs)) count ∙ ap (λ rest. c ∷ rest) (take-joined cs n piece tail (omega arith) e)

-- what stands behind a whole's first piece
abbrev tail_of : ℕ → Option (Bor (List ℕ)) → List ℕ
tail_of sep None = []
tail_of sep (Some rest) = sep ∷ rest.now

-- a whole is its first piece and what stands behind that
whole_of-tail : (sep : ℕ) (piece : List ℕ) (rest : Option (Bor (List ℕ))) → whole_of sep piece rest ≡ piece ++ tail_of sep rest
whole_of-tail sep piece None = sym (append-nil piece)
whole_of-tail sep piece (Some rest) = refl

-- where what stands behind some bytes is a whole, they and its first piece are the front of all
pub take-whole_of : (sep : ℕ) (bytes : List ℕ) (n : ℕ) (piece : List ℕ) (rest : Option (Bor (List ℕ))) → n ≤ length bytes → drop n bytes ≡ whole_of sep piece rest
    → take (n + length piece) bytes ≡ take n bytes ++ piece
take-whole_of sep bytes n piece rest within e = take-joined bytes n piece (tail_of sep rest) within (e ∙ whole_of-tail sep piece rest)

-- all bytes are the whole of that front
pub whole_of-all : (sep : ℕ) (bytes : List ℕ) (n : ℕ) (piece : List ℕ) (rest : Option (Bor (List ℕ))) → n ≤ length bytes → drop n bytes ≡ whole_of sep piece rest
    → bytes ≡ whole_of sep (take (n + length piece) bytes) rest
whole_of-all sep bytes n piece rest within e =
    sym (take-append-drop n bytes) ∙ ap (λ back. take n bytes ++ back) e ∙ whole_of-front sep (take n bytes) piece rest
    ∙ ap (λ front. whole_of sep front rest) (sym (take-whole_of sep bytes n piece rest within e))

-- the front lacks the separator where both its parts do
pub Lacks-front : (sep : ℕ) (bytes : List ℕ) (n : ℕ) (piece : List ℕ) (rest : Option (Bor (List ℕ))) → n ≤ length bytes → drop n bytes ≡ whole_of sep piece rest
    → Lacks sep (take n bytes) → Lacks sep piece → Lacks sep (take (n + length piece) bytes)
Lacks-front sep bytes n piece rest within e left right = subst (Lacks sep) (sym (take-whole_of sep bytes n piece rest within e)) (Lacks-append sep (take n bytes) piece left right)
