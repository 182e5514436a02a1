-- The text of a place, step by step.
use Rattle.std.proofs.Common.{◌≡◌, ℕ, ◌+◌, ◌<◌, suc, List, [], ◌∷◌, ◌++◌, length, drop, get_or, sym, ap, ◌∙◌, add-one, append_assoc, append-nil, drop-cons, arith}
use Rattle.std.specs.Fmt.{decimal}
use Rattle.ff_call.specs.Messages.{steps_text, place_text}

-- what is written of a step
abbrev pub step_text : ℕ → List ℕ
step_text n = 46 ∷ [] ++ decimal n ++ []

step_text-is : (n : ℕ) → step_text n ≡ 46 ∷ decimal n
step_text-is n = append-nil (46 ∷ decimal n)

-- one step more was written
pub steps_text-next : (path : List ℕ) (k n : ℕ) (all put : List ℕ) → k < length path → n ≡ get_or path k 0 → all ≡ put ++ steps_text (drop k path)
    → all ≡ (put ++ step_text n) ++ steps_text (drop (k + 1) path)
steps_text-next path k n all put within is splits =
    let here : steps_text (drop k path) ≡ step_text n ++ steps_text (drop (suc k) path) =
    ap steps_text (drop-cons path k 0 within)
    ∙ ap (λ m. (46 ∷ decimal m) ++ steps_text (drop (suc k) path)) (sym is)
    ∙ ap (λ xs. xs ++ steps_text (drop (suc k) path)) (sym (step_text-is n)) in
    splits
    ∙ ap (λ xs. put ++ xs) here
    ∙ sym (append_assoc put (step_text n) (steps_text (drop (suc k) path)))
    ∙ ap (λ m. (put ++ step_text n) ++ steps_text (drop m path)) (sym (add-one k))

-- what stands behind the first child number of a place
pub place_text-first : (path : List ℕ) (n : ℕ) → 0 < length path → n ≡ get_or path 0 0 → place_text path ≡ ([] ++ decimal n ++ []) ++ steps_text (drop 1 path)
place_text-first [] n some is = absurd (omega arith)
place_text-first (k ∷ ks) n some is =
    ap (λ m. decimal m ++ steps_text ks) (sym is) ∙ ap (λ xs. xs ++ steps_text ks) (sym (append-nil (decimal n)))
