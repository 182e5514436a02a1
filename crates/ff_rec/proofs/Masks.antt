-- The first bytes of a text, compared with a byte all at once: what the mask of them says.
use Rattle.std.proofs.Common.{◌≡◌, ℕ, zero, suc, ◌+◌, ◌-◌, ◌*◌, ◌/◌, ◌%◌, ◌^◌, ◌<◌, ◌≤◌, Bool, true, false, eqb, cond, not, List, [], ◌∷◌, map, length, get_or, take, replicate, refl, sym, ap, ◌∙◌, w8, arith}
use Rattle.std.proofs.Math.Arith.{mod-mul}
use Rattle.std.proofs.lemmas.Simd.{bitmask_splat, length-chunk, none_from_empty_mask, ones-mask_l, run_in_chunk_fails, run_in_chunk_stops, trailing_mask_l}
use Rattle.std.proofs.lemmas.List.{take-map}
use Rattle.std.proofs.lemmas.List.Sums.{sum_by-cons}
use Rattle.std.specs.Int.RustNames.{count_ones}
use Rattle.std.specs.List.{count_by, prefix_len}
use native.Mathlib.Nat.{pow-zero, pow-suc, mod-one, zero-mod, one-le-pow}
use lib.Count.{count_trailing_zeros}
use lib.Lanes.{chunk, mask_l, top, zip2}
use mir.Val.{bits, hbits}
use Rattle.memchr.specs.Find.{NoneBefore, Nowhere, Passes, is_byte}
use Rattle.ff_rec.specs.Lines.{tabs}

-- the lowest bit of a mask, and the others
lowest : (b : Bool) (n : ℕ) → ((cond b 1 0 + 2 * n) % 2 ≡ cond b 1 0) × ((cond b 1 0 + 2 * n) / 2 ≡ n)
lowest true n = omega arith
lowest false n = omega arith

-- the lowest bits of a mask are the mask of the first lanes
mask_l-mod_pow : (ms : List Bool) (n : ℕ) → mask_l ms % 2 ^ n ≡ mask_l (take n ms)
mask_l-mod_pow ms zero = ap (λ m. mask_l ms % m) (pow-zero 2) ∙ mod-one (mask_l ms)
mask_l-mod_pow [] (suc n) = zero-mod (2 ^ suc n)
mask_l-mod_pow (m ∷ ms) (suc n) =
    let parts = lowest m (mask_l ms) in
    ap (λ k. mask_l (m ∷ ms) % k) (pow-suc 2 n)
    ∙ mod-mul (mask_l (m ∷ ms)) {m = 2 ^ n} {c = 2} (omega (arith, one-le-pow n 2 (omega arith))) (omega arith)
    ∙ (λ i. parts.1 i % 2 ^ n * 2 + parts.0 i)
    ∙ ap (λ k. k * 2 + cond m 1 0) (mask_l-mod_pow ms n)
    ∙ omega arith

-- the bytes that equal a tab are the tabs
count_by-tabs : (bs : List ℕ) → count_by (λ b. eqb b 9) bs ≡ tabs bs
count_by-tabs [] = refl
count_by-tabs (b ∷ bs) = sum_by-cons (λ b. cond (eqb b 9) 1 0) b bs ∙ ap (λ n. cond (eqb b 9) 1 0 + n) (count_by-tabs bs)

-- the ones among the lowest bits of the mask of tabs are the tabs among the first bytes
pub ones-first_tabs : (bs : List ℕ) (n : ℕ) → count_ones (mask_l (map (λ b. eqb b 9) bs) % 2 ^ n) ≡ tabs (take n bs)
ones-first_tabs bs n =
    ap count_ones (mask_l-mod_pow (map (λ b. eqb b 9) bs) n ∙ ap mask_l (take-map (λ b. eqb b 9) n bs))
    ∙ ones-mask_l (λ b. eqb b 9) (take n bs)
    ∙ count_by-tabs (take n bs)

-- the mask of the first `n` bytes, compared with `byte`, as vectors of `n` lanes make it
abbrev pub compared : ℕ → List ℕ → ℕ → ℕ
compared byte text n =
    mask_l (map (top (hbits w8)) (zip2 (λ a b. cond (eqb a b) (2 ^ bits w8 - 1) 0) (chunk 0 n text) (replicate n byte))) % 2 ^ 64

-- it has a bit for each of them that equals `byte`
pub compared-is : (byte : ℕ) (text : List ℕ) (n : ℕ) → n ≤ length text → n ≤ 64
    → compared byte text n ≡ mask_l (map (λ b. eqb b byte) (chunk 0 n text))
compared-is byte text n within few = bitmask_splat w8 eqb (chunk 0 n text) n byte (length-chunk 0 n text (omega arith)) few

-- where it has no bit, the byte stands nowhere
pub Nowhere-compared : (byte : ℕ) (text : List ℕ) (n : ℕ) → n ≤ length text → n ≤ 64 → compared byte text n ≡ 0
    → Nowhere (Passes (is_byte byte) text) 0 n
Nowhere-compared byte text n within few none k from to here =
    let empty = sym (compared-is byte text n within few) ∙ none in
    let fails = none_from_empty_mask (λ b. eqb b byte) text 0 n 0 (omega arith) empty k from (omega arith) in
    cc

-- one lane more: where the mask has a bit, fewer lanes than all stand before the first that passes
short-step : (b : Bool) (n m l : ℕ) → 0 < cond b 1 0 + 2 * n → (0 < n → m < l) → cond (not b) (1 + m) 0 < suc l
short-step true n m l some f = omega arith
short-step false n m l some f = omega (arith, f (omega arith))

-- where a mask has a bit, fewer lanes than all stand before the first that passes
prefix_len-lt-length : (p : ℕ → Bool) (bs : List ℕ) → 0 < mask_l (map p bs) → prefix_len (λ b. not (p b)) bs < length bs
prefix_len-lt-length p [] some = absurd (omega arith)
prefix_len-lt-length p (b ∷ bs) some = short-step (p b) (mask_l (map p bs)) (prefix_len (λ b. not (p b)) bs) (length bs) some (prefix_len-lt-length p bs)

-- where the mask of the first bytes has a bit, its lowest is the first place of the byte
pub NoneBefore-compared : (byte : ℕ) (text : List ℕ) (n r : ℕ) → n ≤ length text → n ≤ 64 → 0 < compared byte text n
    → r ≡ count_trailing_zeros 64 (compared byte text n) → NoneBefore (Passes (is_byte byte) text) 0 n r × Passes (is_byte byte) text r
NoneBefore-compared byte text n r within few some found =
    let p : ℕ → Bool = λ b. eqb b byte in
    let long = length-chunk 0 n text (omega arith) in
    let is = compared-is byte text n within few in
    let bit : 0 < mask_l (map p (chunk 0 n text)) = omega (arith, is, some) in
    let counted = found ∙ ap (count_trailing_zeros 64) is ∙ trailing_mask_l p 64 (chunk 0 n text) (omega arith) bit in
    let short : r < n = omega (arith, prefix_len-lt-length p (chunk 0 n text) bit) in
    let from_front : 0 + r ≡ r = omega arith in
    let here : eqb (get_or text r 0) byte ≡ true = ap (λ k. eqb (get_or text k 0) byte) (sym from_front) ∙ run_in_chunk_stops p text 0 n r 0 (omega arith) counted short in (
      record {
        low = omega arith;
        high = short;
        before = λ k from to passes. let fails = run_in_chunk_fails p text 0 n r 0 (omega arith) counted k from (omega arith) in cc;
      },
      here,
    )

-- and its first place of all
pub NoneBefore-more : (byte : ℕ) (text : List ℕ) (n r : ℕ) → n ≤ length text → NoneBefore (Passes (is_byte byte) text) 0 n r → NoneBefore (Passes (is_byte byte) text) 0 (length text) r
NoneBefore-more byte text n r within h = record { low = h.low; high = omega (arith, h.high); before = h.before }
