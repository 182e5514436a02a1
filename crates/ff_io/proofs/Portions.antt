-- What a source in memory gives is the front of what it has left.
use Rattle.std.proofs.Common.{◌≡◌, ℕ, ◌+◌, ◌-◌, ◌<◌, ◌≤◌, min, List, [], ◌++◌, length, take, drop, sym, ◌∙◌, ap, arith, length-drop, take-append-drop}
use Rattle.std.proofs.Math.Seq.{take-append_seam}
use Rattle.std.proofs.lemmas.List.{drop-drop, drop_all}
use Rattle.ff_io.proofs.Fronts.{take-drop_whole}

-- so many bytes of the front
take-append_at : (front tail : List ℕ) (n : ℕ) → length front ≡ n → take n (front ++ tail) ≡ front
take-append_at front tail n whole = ap (λ k. take k (front ++ tail)) (sym whole) ∙ take-append_seam front tail

-- the buffer's front, and then what is left after it
pub take-append-drop_moved : (left items seen front tail : List ℕ) (given n : ℕ) → left ≡ drop given items → seen ≡ items
    → front ≡ take n (take (length seen - given) (drop given seen)) → length front ≡ n
    → left ≡ take n (front ++ tail) ++ drop (given + n) items
take-append-drop_moved left items seen front tail given n from same fills whole =
    let all : take (length seen - given) (drop given seen) ≡ left = take-drop_whole seen given ∙ ap (drop given) same ∙ sym from in
    let given_front : take n (front ++ tail) ≡ take n left = take-append_at front tail n whole ∙ fills ∙ ap (take n) all in
    let after : drop (given + n) items ≡ drop n left = sym (drop-drop n given items) ∙ ap (drop n) (sym from) in
    sym (take-append-drop n left) ∙ ap (λ l. l ++ drop n left) (sym given_front) ∙ ap (λ l. take n (front ++ tail) ++ l) (sym after)

-- nothing was given into some room only where nothing was left
pub drop_at_end : (items seen : List ℕ) (given most room n : ℕ) → seen ≡ items → 1 ≤ most → 0 < room
    → n ≡ min (min (length (take (length seen - given) (drop given seen))) most) room → n ≡ 0 → drop (given + n) items ≡ []
drop_at_end items seen given most room n same some_a_call some_room portion none =
    let length_left = ap length (take-drop_whole seen given) ∙ length-drop given seen in
    let past : length items ≤ given + n = omega (arith, length_left, ap length same) in
    drop_all (given + n) items past
