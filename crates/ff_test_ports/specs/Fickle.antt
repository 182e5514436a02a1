-- What is known at ports that tell nothing.
use Rattle.std.specs.Prelude.{◌≡◌, ℕ, zero, suc, ◌<◌, List, [], ◌∷◌, length, slice_index, slice_set}
use Rattle.std.proofs.Common.{refl, ap, ap₂, sym, ◌∙◌}
use Rattle.ff_rec.specs.declared.msg.Msg.{Msg}
use Rattle.ff_port.specs.Ends.{added, OthersStay}

-- no message, or no room, at each of these
abbrev pub nothing_at : {A : Type 0} → List A → List ℕ
nothing_at [] = []
nothing_at (x ∷ xs) = 0 ∷ nothing_at xs

pub length-nothing_at : {A : Type 0} (xs : List A) → length (nothing_at xs) ≡ length xs
length-nothing_at [] = refl
length-nothing_at (x ∷ xs) = ap (λ n. suc n) (length-nothing_at xs)
