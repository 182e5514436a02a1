-- Queues at which nothing was taken, or nothing was put.
use Rattle.std.proofs.Common.{◌≡◌, List, [], ◌∷◌, length, map, replicate, refl, ap₂}
use Rattle.std.specs.List.{AllByRecursion}

-- what is told of each is nothing
pub map-nothing : {A B : Type 0} (f : A → List B) (xs : List A) → AllByRecursion (λ x. f x ≡ []) xs → map f xs ≡ replicate (length xs) []
map-nothing f [] h = refl
map-nothing f (x ∷ xs) h = ap₂ (λ l ls. l ∷ ls) h.0 (map-nothing f xs h.1)
