-- What stands in a slice after parts of it were turned.
use Rattle.std.proofs.Common.{◌≡◌, ℕ, ◌-◌, ◌≤◌, List, [], ◌++◌, length, take, drop, slice_range, sym, ap, ap₂, ◌∙◌, arith, length-append, length-drop}
use Rattle.std.proofs.lemmas.List.{append-nil, drop-drop, drop_at, drop_all, take_at, take-take, take_rest, length-take-le}
use Rattle.std.proofs.lemmas.Slice.{between_is}
use borrow.Rule.Slice.PartMut.{put_mid}

-- three parts, of which the last is turned to the front, and of the others the first behind the second
pub turned : (xs ys zs : List ℕ) (left right n m : ℕ) → left ≤ right → right ≤ length xs → ys ≡ drop right xs ++ take right xs → n ≡ length ys - right → m ≡ length ys - n
    → zs ≡ drop left (take m (drop n ys)) ++ take left (take m (drop n ys)) → put_mid n m ys zs ≡ drop right xs ++ (slice_range xs left right ++ take left xs)
turned xs ys zs left right n m low high turn is_n is_m turn_back =
    let long : length ys ≡ length xs = omega (arith, ap length turn, length-append (drop right xs) (take right xs), length-drop right xs, length-take-le right xs high) in
    let at_n : length (drop right xs) ≡ n = omega (arith, length-drop right xs) in
    let front : take n ys ≡ drop right xs = ap (take n) turn ∙ take_at (drop right xs) (take right xs) n at_n in
    let rest : drop n ys ≡ take right xs = ap (drop n) turn ∙ drop_at (drop right xs) (take right xs) n at_n in
    let whole : take m (drop n ys) ≡ take right xs = ap (λ (i : ℕ). take i (drop n ys)) is_m ∙ take_rest ys n ∙ rest in
    let none : drop m (drop n ys) ≡ [] = drop_all m (drop n ys) (omega (arith, length-drop n ys)) in
    ap₂ ◌++◌ front (ap₂ ◌++◌ turn_back none ∙ append-nil (drop left (take m (drop n ys)) ++ take left (take m (drop n ys))))
    ∙ ap (λ (q : List ℕ). drop right xs ++ (drop left q ++ take left q)) whole
    ∙ ap₂ (λ (x y : List ℕ). drop right xs ++ (x ++ y)) (sym (between_is xs left right)) (take-take left right xs low)

-- a range of what stands from a place on
slice_range-drop : (xs : List ℕ) (f a c : ℕ) → f ≤ a → slice_range (drop f xs) (a - f) (c - f) ≡ slice_range xs a c
slice_range-drop xs f a c low =
    ap₂ (λ (n : ℕ) (q : List ℕ). take n q) (omega arith) (drop-drop (a - f) f xs ∙ ap (λ (n : ℕ). drop n xs) (omega arith))

-- two parts of a slice and what stands between them, turned
pub put_mid-parts_swapped : (xs zs : List ℕ) (f e t u : ℕ) → f ≤ e → e ≤ t → t ≤ u → u ≤ length xs
    → zs ≡ drop (t - f) (take (u - f) (drop f xs)) ++ (slice_range (take (u - f) (drop f xs)) (e - f) (t - f) ++ take (e - f) (take (u - f) (drop f xs)))
    → put_mid f (u - f) xs zs ≡ take f xs ++ ((slice_range xs t u ++ (slice_range xs e t ++ slice_range xs f e)) ++ drop u xs)
put_mid-parts_swapped xs zs f e t u fe et tu within is =
    let part = take (u - f) (drop f xs) in
    let last : drop (t - f) part ≡ slice_range xs t u = sym (between_is (drop f xs) (t - f) (u - f)) ∙ slice_range-drop xs f t u (omega arith) in
    let mid : slice_range part (e - f) (t - f) ≡ slice_range xs e t =
    between_is part (e - f) (t - f) ∙ ap (drop (e - f)) (take-take (t - f) (u - f) (drop f xs) (omega arith))
    ∙ sym (between_is (drop f xs) (e - f) (t - f)) ∙ slice_range-drop xs f e t fe in
    let first : take (e - f) part ≡ slice_range xs f e = take-take (e - f) (u - f) (drop f xs) (omega arith) in
    let rest : drop (u - f) (drop f xs) ≡ drop u xs = drop-drop (u - f) f xs ∙ ap (λ (n : ℕ). drop n xs) (omega arith) in
    ap (λ (q : List ℕ). take f xs ++ q) (ap₂ ◌++◌ (is ∙ ap₂ ◌++◌ last (ap₂ ◌++◌ mid first)) rest)
