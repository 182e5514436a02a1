-- An array that is filled in part: what stands in it after parts were moved and written over.
use Rattle.std.proofs.Common.{◌≡◌, ℕ, ◌+◌, ◌-◌, ◌≤◌, List, ◌++◌, length, take, drop, slice_range, sym, ap, ap₂, ◌∙◌, append_assoc, arith, length-append, length-drop, take-append-drop}
use Rattle.std.specs.List.{copy_within}
use Rattle.std.proofs.lemmas.List.{take-take, take_at, drop_at, take-append-le, length-take-le, drop-drop}
use Rattle.std.proofs.lemmas.Slice.{between_is}
use borrow.Rule.Slice.PartMut.{put_mid}

-- a range of the filled part
pub slice_range-take : (d : List ℕ) (s e len : ℕ) → e ≤ len → slice_range (take len d) s e ≡ slice_range d s e
slice_range-take d s e len low = between_is (take len d) s e ∙ ap (drop s) (take-take e len d low) ∙ sym (between_is d s e)

pub length-slice_range : (d : List ℕ) (s e : ℕ) → e ≤ length d → length (slice_range d s e) ≡ e - s
length-slice_range d s e low = length-take-le (e - s) (drop s d) (omega (arith, length-drop s d))

-- a part moved to the front
pub take-kept : (d : List ℕ) (s e len : ℕ) → e ≤ len → len ≤ length d → take (e - s) (copy_within d s e 0) ≡ slice_range (take len d) s e
take-kept d s e len low within =
    take_at (slice_range d s e) (drop (0 + (e - s)) d) (e - s) (length-slice_range d s e (omega arith)) ∙ sym (slice_range-take d s e len low)

-- the last part moved over one before it
pub take-removed : (d : List ℕ) (s e len : ℕ) → s ≤ e → e ≤ len → len ≤ length d
    → take (s + (len - e)) (copy_within d e len s) ≡ take s (take len d) ++ drop e (take len d)
take-removed d s e len order low within =
    take_at (take s d ++ slice_range d e len) (drop (s + (len - e)) d) (s + (len - e))
    (omega (arith, length-append (take s d) (slice_range d e len), length-take-le s d (omega arith), length-slice_range d e len within))
    ∙ ap₂ ◌++◌ (sym (take-take s len d (omega arith))) (between_is d e len)

-- the last part moved, and other bytes written before it
pub take-replaced : (d by : List ℕ) (s e len k : ℕ) → s ≤ e → e ≤ len → len ≤ length d → s + length by + (len - e) ≤ length d → k ≡ length by
    → take (s + length by + (len - e)) (put_mid s k (copy_within d e len (s + length by)) by) ≡ take s (take len d) ++ (by ++ drop e (take len d))
take-replaced d by s e len k order low within room is =
    let last = s + length by in
    let part = slice_range d e len in
    let more = drop (last + (len - e)) d in
    let moved = copy_within d e len last in
    let long_front : length (take last d) ≡ last = length-take-le last d (omega arith) in
    let long_part : length part ≡ len - e = length-slice_range d e len within in
    let front : take s moved ≡ take s d =
    take-append-le s (take last d ++ part) more (omega (arith, length-append (take last d) part))
    ∙ take-append-le s (take last d) part (omega arith) ∙ take-take s last d (omega arith) in
    let rest : drop k (drop s moved) ≡ part ++ more =
    drop-drop k s moved ∙ ap (λ (n : ℕ). drop n moved) (let e : s + k ≡ last = omega arith in e)
    ∙ ap (drop last) (append_assoc (take last d) part more) ∙ drop_at (take last d) (part ++ more) last long_front in
    let regroup : take s d ++ (by ++ (part ++ more)) ≡ (take s d ++ (by ++ part)) ++ more =
    ap (λ (q : List ℕ). take s d ++ q) (sym (append_assoc by part more)) ∙ sym (append_assoc (take s d) (by ++ part) more) in
    ap (take (last + (len - e))) (ap₂ (λ (x y : List ℕ). x ++ (by ++ y)) front rest ∙ regroup)
    ∙ take_at (take s d ++ (by ++ part)) more (last + (len - e))
    (omega (arith, length-append (take s d) (by ++ part), length-append by part, length-take-le s d (omega arith)))
    ∙ ap₂ (λ (x y : List ℕ). x ++ (by ++ y)) (sym (take-take s len d (omega arith))) (between_is d e len)

-- as many other bytes written over a part
pub take-put_mid : (d by : List ℕ) (s e len : ℕ) → s ≤ e → e ≤ len → len ≤ length d → length by ≡ e - s
    → take len (put_mid s (e - s) d by) ≡ take s (take len d) ++ (by ++ drop e (take len d))
take-put_mid d by s e len order low within is =
    let part = slice_range d e len in
    let more = drop (len - e) (drop e d) in
    let rest : drop (e - s) (drop s d) ≡ part ++ more =
    drop-drop (e - s) s d ∙ ap (λ (n : ℕ). drop n d) (let h : s + (e - s) ≡ e = omega arith in h) ∙ sym (take-append-drop (len - e) (drop e d)) in
    let regroup : take s d ++ (by ++ (part ++ more)) ≡ (take s d ++ (by ++ part)) ++ more =
    ap (λ (q : List ℕ). take s d ++ q) (sym (append_assoc by part more)) ∙ sym (append_assoc (take s d) (by ++ part) more) in
    ap (take len) (ap (λ (q : List ℕ). take s d ++ (by ++ q)) rest ∙ regroup)
    ∙ take_at (take s d ++ (by ++ part)) more len
    (omega (arith, length-append (take s d) (by ++ part), length-append by part, length-take-le s d (omega arith), length-slice_range d e len within))
    ∙ ap₂ (λ (x y : List ℕ). x ++ (by ++ y)) (sym (take-take s len d (omega arith))) (between_is d e len)
