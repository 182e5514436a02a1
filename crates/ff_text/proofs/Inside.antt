-- No lexeme is the end of a text, none goes beyond it, and what it holds may be printed again.
use Rattle.std.proofs.Common.{◌≡◌, ◌≢◌, ◌==◌, ◌<◌, ◌≤◌, Bool, true, false, cond, ℕ, suc, List, [], ◌∷◌, take, drop, length, Some, refl, arith, length-drop}
use Rattle.std.specs.List.{prefix_len}
use Rattle.std.specs.Char.{is_ascii_lowercase, is_ascii_digit}
use Rattle.std.proofs.lemmas.List.Sums.{prefix_len-le-length}
use Rattle.std.specs.Option.{MatchOption}
use Rattle.ff_text.specs.Tokens.{Token, Sign, Bad, Stop}
use Rattle.ff_text.proofs.CutTokens.{IsCut, IsCut-number, in_quotes-run}
use Rattle.ff_text.specs.declared.text_mark.TextMark.{TextMark}
use Rattle.ff_text.specs.declared.text_mark.TextMark.TheVariants.{Open, Close, Comma, Less, AtMost, Equal, Unequal, AtLeast, Greater, Semicolon}
use Rattle.ff_text.specs.Classes.{is_blank, is_in_word, is_in_quotes, is_in_line}
use Rattle.ff_text.specs.Cutting.{is_next, Lexeme, gap, piece, word, with_equal, digits, quoted, minus, sign, lexeme}

-- with so many bytes behind the first
pub record IsInside (n : ℕ) (l : Lexeme) : Type 0 where
  pub other : l.token ≢ Some Stop
  pub within : l.more ≤ n
  pub holds : MatchOption l.token (Unit {0}) IsCut

IsInside-gap : (n more : ℕ) → more ≤ n → IsInside n (gap more)
IsInside-gap n more h = record { other = λ e. cc; within = h; holds = tt }

IsInside-piece : (n : ℕ) (t : Token) (more : ℕ) → t ≢ Stop → IsCut t → more ≤ n → IsInside n (piece t more)
IsInside-piece n t more other holds h = record { other = λ e. other (cc); within = h; holds = holds }

IsInside-if : (n : ℕ) (test : Bool) (l m : Lexeme) → (test ≡ true → IsInside n l) → IsInside n m → IsInside n (cond test l m)
IsInside-if n true l m h k = h refl
IsInside-if n false l m h k = k

IsInside-one : (n : ℕ) (t : Token) → t ≢ Stop → IsCut t → IsInside n (piece t 0)
IsInside-one n t other holds = IsInside-piece n t 0 other holds (omega arith)

IsInside-bad : (n : ℕ) → IsInside n (piece Bad 0)
IsInside-bad n = IsInside-one n Bad (λ e. cc) tt

IsInside-mark : (n : ℕ) (m : TextMark) → IsInside n (piece (Sign m) 0)
IsInside-mark n m = IsInside-one n (Sign m) (λ e. cc) tt

-- where a byte comes next there is one
is_next-some : (b : ℕ) (bs : List ℕ) → is_next b bs ≡ true → 0 < length bs
is_next-some b [] e = absurd (cc)
is_next-some b (c ∷ cs) e = omega arith

IsInside-with_equal : (alone both : Token) (bs : List ℕ) → alone ≢ Stop → IsCut alone → both ≢ Stop → IsCut both → IsInside (length bs) (with_equal alone both bs)
IsInside-with_equal alone both bs h p k q =
    IsInside-if (length bs) (is_next 61 bs) _ _ (λ e. IsInside-piece (length bs) both 1 k q (omega (arith, is_next-some 61 bs e))) (IsInside-one (length bs) alone h p)

IsInside-sign : (b : ℕ) (bs : List ℕ) → IsInside (length bs) (sign b bs)
IsInside-sign b bs =
    let n = length bs in
    IsInside-if n (b == 40) _ _ (λ _. IsInside-mark n Open) (
    IsInside-if n (b == 41) _ _ (λ _. IsInside-mark n Close) (
    IsInside-if n (b == 44) _ _ (λ _. IsInside-mark n Comma) (
    IsInside-if n (b == 59) _ _ (λ _. IsInside-mark n Semicolon) (
    IsInside-if n (b == 61) _ _ (λ _. IsInside-mark n Equal) (
    IsInside-if n (b == 60) _ _ (λ _. IsInside-with_equal (Sign Less) (Sign AtMost) bs (λ e. cc) tt (λ e. cc) tt) (
    IsInside-if n (b == 62) _ _ (λ _. IsInside-with_equal (Sign Greater) (Sign AtLeast) bs (λ e. cc) tt (λ e. cc) tt) (
    IsInside-if n (b == 33) _ _ (λ _. IsInside-with_equal Bad (Sign Unequal) bs (λ e. cc) tt (λ e. cc) tt) (IsInside-bad n))))))))

IsInside-word : (b : ℕ) (bs : List ℕ) → IsInside (length bs) (word b bs)
IsInside-word b bs = IsInside-piece (length bs) _ _ (λ e. cc) tt (prefix_len-le-length is_in_word bs)

IsInside-digits : (b : ℕ) (bs : List ℕ) → IsInside (length bs) (digits b bs)
IsInside-digits b bs =
    IsInside-piece (length bs) _ _ (λ e. cc) (IsCut-number (b ∷ take (prefix_len is_ascii_digit bs) bs)) (prefix_len-le-length is_ascii_digit bs)

IsInside-minus : (bs : List ℕ) → IsInside (length bs) (minus bs)
IsInside-minus bs =
    IsInside-if (length bs) (prefix_len is_ascii_digit bs == 0) _ _ (λ _. IsInside-bad (length bs)) (IsInside-digits 45 bs)

IsInside-quoted : (bs : List ℕ) → IsInside (length bs) (quoted bs)
IsInside-quoted bs =
    let len = prefix_len is_in_quotes bs in
    IsInside-if (length bs) (is_next 34 (drop len bs)) _ _ (λ e. IsInside-piece (length bs) _ (suc len) (λ e. cc) (in_quotes-run bs) (omega (arith, is_next-some 34 (drop len bs) e, length-drop len bs))) (IsInside-bad (length bs))

pub IsInside-lexeme : (b : ℕ) (bs : List ℕ) → IsInside (length bs) (lexeme b bs)
IsInside-lexeme b bs =
    let n = length bs in
    IsInside-if n (is_blank b) _ _ (λ _. IsInside-gap n 0 (omega arith)) (
    IsInside-if n (b == 35) _ _ (λ _. IsInside-gap n (prefix_len is_in_line bs) (prefix_len-le-length is_in_line bs)) (
    IsInside-if n (is_ascii_lowercase b) _ _ (λ _. IsInside-word b bs) (
    IsInside-if n (is_ascii_digit b) _ _ (λ _. IsInside-digits b bs) (
    IsInside-if n (b == 45) _ _ (λ _. IsInside-minus bs) (
    IsInside-if n (b == 34) _ _ (λ _. IsInside-quoted bs) (IsInside-sign b bs))))))
