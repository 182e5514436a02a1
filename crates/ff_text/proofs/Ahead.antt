-- The spots ahead, one lexeme after another.
use Rattle.std.proofs.Common.{◌≡◌, ◌≢◌, ℕ, zero, suc, ◌+◌, ◌-◌, ◌<◌, ◌≤◌, List, [], ◌∷◌, length, get_or, take, drop, Some, refl, sym, ap, subst, ◌∙◌, arith, one-add, length-drop}
use Rattle.std.proofs.lemmas.List.{take_all, drop-drop}
use Rattle.std.specs.Option.{MatchOption}
use Rattle.ff_text.specs.Tokens.{Token, Word, Number, Sign, Quoted, Bad, Stop, HasPlainText, PlacedToken}
use Rattle.ff_text.proofs.CutTokens.{IsCut, HasPlainText-cut}
use Rattle.ff_text.proofs.Inside.{IsInside-lexeme}
use Rattle.ff_text.specs.Seen.{behind}
use Rattle.ff_text.specs.Cutting.{Lexeme, lexeme, put, spots, ahead}

-- what belongs to the lexeme before is passed over
pub skipped : (k at : ℕ) (bs : List ℕ) → k ≤ length bs → spots k at bs ≡ spots 0 (k + at) (drop k bs)
skipped zero at bs within = ap (λ n. spots 0 n bs) (omega arith)
skipped (suc k) at [] within = absurd (omega arith)
skipped (suc k) at (b ∷ bs) within =
    skipped k (suc at) bs (omega arith) ∙ ap (λ n. spots 0 n (drop k bs)) (omega arith)

-- the first bytes of a text by its first byte
pub take-front : (k : ℕ) (bs : List ℕ) → 0 < length bs → take (1 + k) bs ≡ get_or bs 0 0 ∷ take k (drop 1 bs)
take-front k [] some = absurd (omega arith)
take-front k (b ∷ bs) some = rw one-add refl

-- all bytes from a place on
pub take-behind : (at : ℕ) (bs : List ℕ) → take (length bs - at) (drop at bs) ≡ drop at bs
take-behind at bs = take_all (length bs - at) (drop at bs) (omega (arith, length-drop at bs))

-- the lexeme at the front of a text
spots-front : (at : ℕ) (bs : List ℕ) (l : Lexeme) → l ≡ lexeme (get_or bs 0 0) (drop 1 bs) → l.more < length bs → spots 0 at bs ≡ put l.token at (spots 0 (at + (1 + l.more)) (drop (1 + l.more) bs))
spots-front at [] l is within = absurd (omega arith)
spots-front at (b ∷ bs) l is within =
    ap (λ m. put m.token at (spots m.more (suc at) bs)) (sym is)
    ∙ ap (put l.token at) (skipped l.more (suc at) bs (omega arith) ∙ rw one-add (ap (λ n. spots 0 n (drop l.more bs)) (omega arith)))

-- the lexeme at a place of a text
pub ahead-lexeme : (text : List ℕ) (at : ℕ) (l : Lexeme) → l ≡ lexeme (get_or (drop at text) 0 0) (drop 1 (drop at text)) → l.more < length (drop at text) → ahead text at ≡ put l.token at (ahead text (at + (1 + l.more)))
ahead-lexeme text at l is within =
    spots-front at (drop at text) l is within
    ∙ ap (λ bs. put l.token at (spots 0 (at + (1 + l.more)) bs)) (drop-drop (1 + l.more) at text)

-- behind any token but the end
behind-other : (t : Token) (rest : List PlacedToken) → t ≢ Stop → behind t rest ≡ rest
behind-other (Word w) rest h = refl
behind-other (Number n) rest h = refl
behind-other (Sign m) rest h = refl
behind-other (Quoted bs) rest h = refl
behind-other Bad rest h = refl
behind-other Stop rest h = absurd (h refl)

-- the token at a place of a text
pub ahead-token : (text : List ℕ) (at : ℕ) (l : Lexeme) (t : Token) → l ≡ lexeme (get_or (drop at text) 0 0) (drop 1 (drop at text)) → l.more < length (drop at text) → l.token ≡ Some t → (t ≢ Stop) × (ahead text at ≡ record { token = t; at = at } ∷ behind t (ahead text (at + (1 + l.more)))) × HasPlainText t
ahead-token text at l t is within token =
    let here = IsInside-lexeme (get_or (drop at text) 0 0) (drop 1 (drop at text)) in
    let same = ap (λ m. m.token) (sym is) ∙ token in
    let other : t ≢ Stop = λ e. here.other (same ∙ ap (λ u. Some u) e) in (
      other,
      ahead-lexeme text at l is within
          ∙ ap (λ o. put o at (ahead text (at + (1 + l.more)))) token
          ∙ ap (λ rest. record { token = t; at = at } ∷ rest) (sym (behind-other t (ahead text (at + (1 + l.more))) other)),
      HasPlainText-cut t (subst (λ o. MatchOption o (Unit {0}) IsCut) same here.holds),
    )
