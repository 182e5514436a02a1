-- Pasts, told from their newest.
use Rattle.std.proofs.Common.{◌≡◌, List, [], ◌∷◌, ◌++◌, refl, ap, ◌∙◌}
use Rattle.ff_loop.specs.Noted.{backward}

pub backward-append : {A B : Type 0} (f : A → B) (xs : List A) (x : A) → backward f (xs ++ x ∷ []) ≡ f x ∷ backward f xs
backward-append f [] x = refl
backward-append f (y ∷ ys) x = ap (λ l. l ++ f y ∷ []) (backward-append f ys x)

-- one more was noted
pub backward-noted : {A B : Type 0} (f : A → B) (past new : List A) (x : A) (before : List B) → new ≡ past ++ x ∷ [] → backward f past ≡ before
    → backward f new ≡ f x ∷ before
backward-noted f past new x before is was = ap (backward f) is ∙ backward-append f past x ∙ ap (λ l. f x ∷ l) was
