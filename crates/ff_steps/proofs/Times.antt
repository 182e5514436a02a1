-- A list so many times, and once more.
use Rattle.std.proofs.Common.{◌≡◌, ℕ, zero, suc, ◌+◌, List, ◌++◌, sym, ap, ◌∙◌, append_assoc, append-nil, add-one}
use Rattle.ff_steps.specs.PlanUnits.{times}

times-more : {A : Type 0} (n : ℕ) (xs : List A) → times n xs ++ xs ≡ xs ++ times n xs
times-more zero xs = sym (append-nil xs)
times-more (suc n) xs = append_assoc xs (times n xs) xs ∙ ap (λ ys. xs ++ ys) (times-more n xs)

pub times-push : {A : Type 0} (front : List A) (n : ℕ) (xs now next : List A) → now ≡ front ++ times n xs → next ≡ now ++ xs → next ≡ front ++ times (n + 1) xs
times-push front n xs now next so_far more =
    more ∙ ap (λ us. us ++ xs) so_far ∙ append_assoc front (times n xs) xs ∙ ap (λ us. front ++ us) (times-more n xs) ∙ ap (λ k. front ++ times k xs) (sym (add-one n))
