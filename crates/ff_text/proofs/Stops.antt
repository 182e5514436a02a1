-- The spots of a text, front first, up to `Stop` at its length.
use Rattle.std.proofs.Common.{◌≡◌, ◌≢◌, ℕ, zero, suc, ◌+◌, List, [], ◌∷◌, ◌++◌, length, drop, Option, None, Some, ap, ◌∙◌, arith}
use Rattle.std.specs.List.{All}
use Rattle.std.proofs.lemmas.List.Elements.{All-nil, All-cons}
use Rattle.ff_text.specs.Tokens.{Token, Stop, PlacedToken}
use Rattle.ff_text.specs.Cutting.{lexeme, put, spots}
use Rattle.ff_text.specs.CutLaws.{CutsFrontFirst, StopsAtItsEnd}
use Rattle.ff_text.proofs.Inside.{IsInside-lexeme}
use Rattle.ff_text.proofs.Ahead.{skipped}

pub cuts_front_first : CutsFrontFirst
cuts_front_first b bs at =
    let l = lexeme b bs in
    ap (put l.token at) (skipped l.more (suc at) bs (IsInside-lexeme b bs).within ∙ ap (λ n. spots 0 n (drop l.more bs)) (omega arith))

-- a spot before the last
abbrev IsInner : PlacedToken → Type 0
IsInner s = s.token ≢ Stop

-- spots of a text that ends at the place `end`
abbrev EndsAt : ℕ → List PlacedToken → Type 0
EndsAt end ss = (inner : List PlacedToken) × (ss ≡ inner ++ record { token = Stop; at = end } ∷ []) × All IsInner inner

EndsAt-put : (o : Option Token) (at end : ℕ) (ss : List PlacedToken) → o ≢ Some Stop → EndsAt end ss → EndsAt end (put o at ss)
EndsAt-put None at end ss other h = h
EndsAt-put (Some t) at end ss other h =
    (record { token = t; at = at } ∷ h.0, ap (λ rest. record { token = t; at = at } ∷ rest) h.1, All-cons IsInner (record { token = t; at = at }) h.0 (λ e. other (ap (λ u. Some u) e)) h.2)

EndsAt-spots : (k at end : ℕ) (bs : List ℕ) → end ≡ at + length bs → EndsAt end (spots k at bs)
EndsAt-spots k at end [] is = ([], ap (λ n. record { token = Stop; at = n } ∷ []) (omega arith), All-nil IsInner)
EndsAt-spots (suc k) at end (b ∷ bs) is = EndsAt-spots k (suc at) end bs (omega arith)
EndsAt-spots zero at end (b ∷ bs) is =
    let l = lexeme b bs in
    EndsAt-put l.token at end (spots l.more (suc at) bs) (IsInside-lexeme b bs).other (EndsAt-spots l.more (suc at) end bs (omega arith))

pub stops_at_its_end : StopsAtItsEnd
stops_at_its_end text = EndsAt-spots 0 0 (length text) text (omega arith)
