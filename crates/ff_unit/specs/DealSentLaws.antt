-- What a deal sends for records that are dealt by picks.
use Rattle.std.specs.Prelude.{◌≡◌, ◌<◌, ℕ, List, [], ◌∷◌, ◌++◌, length}
use Rattle.std.specs.List.{AllByRecursion}
use Rattle.std.proofs.Common.{refl, sym, ap, ◌∙◌, arith, append-nil, append_assoc}
use Rattle.ff_rec.specs.Lines.{Rec}
use Rattle.ff_rec.specs.declared.msg.Msg.TheVariants.{Item}
use Rattle.ff_unit.specs.Deals.{behind, deal_outs}
use Rattle.ff_unit.specs.declared.dealing.Dealing.{Dealing}
use Rattle.ff_unit.specs.declared.dealing.Dealing.TheVariants.{InTurn, OnDemand, ByKey, GroupsInTurn, GroupsOnDemand}
use Rattle.ff_unit.specs.DealPairLaws.{Pair, IsInner, AreInner, AllByRecursion-append}

-- what is put for records that are dealt by picks, each message with its out
abbrev pub sent : Dealing → ℕ → List ℕ → List Rec → List Pair
sent way n [] xs = []
sent way n (w ∷ picks) [] = []
sent way n (w ∷ picks) (x ∷ xs) = ((w, Item x) ∷ behind way n w) ++ sent way n picks xs

pub sent-append : (way : Dealing) (n : ℕ) (p q : List ℕ) (xs ys : List Rec) → length p ≡ length xs → sent way n (p ++ q) (xs ++ ys) ≡ sent way n p xs ++ sent way n q ys
sent-append way n [] q [] ys e = refl
sent-append way n [] q (x ∷ xs) ys e = absurd (omega (arith, e))
sent-append way n (w ∷ p) q [] ys e = absurd (omega (arith, e))
sent-append way n (w ∷ p) q (x ∷ xs) ys e =
    ap (λ l. ((w, Item x) ∷ behind way n w) ++ l) (sent-append way n p q xs ys (omega (arith, e)))
    ∙ sym (append_assoc ((w, Item x) ∷ behind way n w) (sent way n p xs) (sent way n q ys))

pub sent-push : (way : Dealing) (n : ℕ) (p : List ℕ) (xs : List Rec) (w : ℕ) (x : Rec) → length p ≡ length xs
    → sent way n (p ++ w ∷ []) (xs ++ x ∷ []) ≡ sent way n p xs ++ (w, Item x) ∷ behind way n w
sent-push way n p xs w x e =
    sent-append way n p (w ∷ []) xs (x ∷ []) e
    ∙ ap (λ l. sent way n p xs ++ l) (append-nil ((w, Item x) ∷ behind way n w))

-- each place is an out
pub place-out : (way : Dealing) (n w : ℕ) → w < n → w < deal_outs way n
place-out InTurn n w below = below
place-out OnDemand n w below = below
place-out (ByKey f) n w below = below
place-out GroupsInTurn n w below = below
place-out GroupsOnDemand n w below = omega (arith, below)

AreInner-behind : (way : Dealing) (n w : ℕ) → w < n → AreInner (deal_outs way n) (behind way n w)
AreInner-behind InTurn n w below = tt
AreInner-behind OnDemand n w below = tt
AreInner-behind (ByKey f) n w below = tt
AreInner-behind GroupsInTurn n w below = ((below, tt), tt)
AreInner-behind GroupsOnDemand n w below = ((omega (arith, below), tt), ((omega arith, tt), tt))

pub AreInner-sent : (way : Dealing) (n : ℕ) (picks : List ℕ) (xs : List Rec) → AllByRecursion (λ w. w < n) picks → AreInner (deal_outs way n) (sent way n picks xs)
AreInner-sent way n [] xs h = tt
AreInner-sent way n (w ∷ picks) [] h = tt
AreInner-sent way n (w ∷ picks) (x ∷ xs) h =
    AllByRecursion-append (IsInner (deal_outs way n)) ((w, Item x) ∷ behind way n w) (sent way n picks xs)
    ((place-out way n w h.0, tt), AreInner-behind way n w h.0) (AreInner-sent way n picks xs h.1)
