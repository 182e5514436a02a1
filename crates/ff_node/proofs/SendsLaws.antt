-- Laws of what a node's calls gather.
use Rattle.std.specs.Prelude.{◌≡◌, ℕ, ◌+◌, ◌-◌, ◌^◌, ◌≤◌, min, Bool, true, false, List, [], ◌∷◌, ◌++◌, length, refl}
use Rattle.std.proofs.Common.{◌∙◌, append_assoc, append-nil, arith}
use Rattle.ff_rec.specs.Lines.{Rec}
use Rattle.ff_node.specs.Sends.{Sent, count_more, kept_of, add, rejects_alone}

-- two lists of rejects are counted one after the other
pub count_more-append : (n : ℕ) (xs ys : List Rec) → count_more n (xs ++ ys) ≡ count_more (count_more n xs) ys
count_more-append n [] ys = refl
count_more-append n (x ∷ xs) ys = count_more-append (min (n + 1) (2 ^ 64 - 1)) xs ys

-- the count is the number of records, up to its last value
pub count_more-length : (n : ℕ) (xs : List Rec) → n ≤ 2 ^ 64 - 1 → count_more n xs ≡ min (n + length xs) (2 ^ 64 - 1)
count_more-length n [] within = omega (arith, within)
count_more-length n (x ∷ xs) within =
    let next : min (n + 1) (2 ^ 64 - 1) ≤ 2 ^ 64 - 1 = omega arith in
    count_more-length (min (n + 1) (2 ^ 64 - 1)) xs next ∙ omega (arith, within)

-- a count from nothing
pub count_more-zero : (xs : List Rec) → count_more 0 xs ≡ min (length xs) (2 ^ 64 - 1)
count_more-zero xs = count_more-length 0 xs (omega arith) ∙ omega arith

-- the records that are kept of two lists
pub kept_of-append : (keeps : Bool) (xs ys : List Rec) → kept_of keeps (xs ++ ys) ≡ kept_of keeps xs ++ kept_of keeps ys
kept_of-append true xs ys = refl
kept_of-append false xs ys = refl

-- of no records none is kept
pub kept_of-nil : (keeps : Bool) → kept_of keeps [] ≡ []
kept_of-nil true = refl
kept_of-nil false = refl

-- what is added in two steps
pub add-add : (s : Sent) (a b c d : List Rec) → add (add s a b) c d ≡ add s (a ++ c) (b ++ d)
add-add s a b c d = simp (append_assoc, count_more-append, kept_of-append) refl

-- adding nothing
pub add-nothing : (s : Sent) → add s [] [] ≡ s
add-nothing s = simp (append-nil, kept_of-nil) refl

-- what was sent, added to the rejects alone
pub add-sends : (s : Sent) → add (rejects_alone s) s.sends [] ≡ s
add-sends s = simp (append-nil, kept_of-nil) refl
