-- What a deal holds for its outs.
use Rattle.std.proofs.Common.{◌≡◌, ◌<◌, ◌+◌, ◌-◌, ℕ, suc, List, ◌∷◌, Option, None, sym, ap, ◌∙◌, subst, arith}
use Rattle.ff_rec.specs.Lines.{Rec}
use Rattle.ff_node.specs.Runs.{Message, Gave}
use Rattle.ff_unit.specs.Deals.{DealState, DealStep, DealGives, on_outs}

-- a message with its out
abbrev pub Pair : Type 0
Pair = ℕ × Message

-- the first of the outs that are left
pub on_outs-next : (i n : ℕ) (m : Message) → i < n → on_outs i (n - i) m ≡ (i, m) ∷ on_outs (i + 1) (n - (i + 1)) m
on_outs-next i n m below =
    let left : n - i ≡ suc (n - (i + 1)) = omega arith in
    let next : suc i ≡ i + 1 = omega arith in
    ap (λ k. on_outs i k m) left ∙ ap (λ k. (i, m) ∷ on_outs k (n - (i + 1)) m) next

-- the first held message was put
pub DealStep-held : (u : DealState) (free : Option Rec) (pair : Pair) (held : List Pair) → u.free ≡ None → free ≡ None → u.held ≡ pair ∷ held
    → DealStep u (Gave pair.0 pair.1) (record u { free = free; held = held })
DealStep-held u free pair held none none' first =
    subst (λ o. DealGives o u pair.0 pair.1 (record u { free = free; held = held })) (sym none)
    (first, ap (λ (o : Option Rec). record u { free = o; held = held }) (none' ∙ sym none))
