-- The entries of a store, with one more.
use Rattle.std.proofs.Common.{◌≡◌, ◌<◌, ◌+◌, ℕ, List, [], ◌∷◌, ◌++◌, get_or, length, map, take, sym, ap, ◌∙◌}
use Rattle.std.proofs.lemmas.List.{map-append, take_more}
use Rattle.ff_mdf.specs.Stores.{Entry, Env, entry, valued}
use Rattle.ff_mdf.specs.declared.value.Value.{Value}

-- the entry of the name at the next place
pub map-valued-push : (env : Env) (old new : List Entry) (names : List (List ℕ)) (k : ℕ) (n : List ℕ) (v : Value) → k < length names → n ≡ get_or names k n
    → old ≡ map (valued env) (take k names) → new ≡ old ++ entry n v ∷ [] → v ≡ env n → new ≡ map (valued env) (take (k + 1) names)
map-valued-push env old new names k n v below at before is value =
    is
    ∙ ap (λ xs. xs ++ entry n v ∷ []) before
    ∙ ap (λ w. map (valued env) (take k names) ++ entry n w ∷ []) value
    ∙ sym (map-append (valued env) (take k names) (n ∷ []))
    ∙ ap (map (valued env)) (ap (λ x. take k names ++ x ∷ []) at ∙ sym (take_more names k n below))
