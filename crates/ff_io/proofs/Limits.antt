-- What is read of all that a reader has, up to one byte beyond a limit.
use Rattle.std.proofs.Common.{◌≡◌, ℕ, ◌+◌, ◌-◌, ◌^◌, ◌<◌, ◌≤◌, min, List, length, take, Option, None, Some, IfSome, ◌∙◌, ap, arith}
use Rattle.std.proofs.lemmas.List.{take_all, length-take}
use Rattle.std.specs.Option.{option_map}

-- what is within the limit is all
pub IfSome-within : (left : Option (List ℕ)) (content : List ℕ) (limit most : ℕ) → most ≡ min (limit + 1) (2 ^ 64 - 1) → length content ≤ limit
    → length content < 2 ^ 63 → IfSome (option_map (take most) left) (λ bytes. content ≡ bytes) → IfSome left (λ bytes. content ≡ bytes)
IfSome-within None content limit most reads within small e = tt
IfSome-within (Some bytes) content limit most reads within small e =
    let some : length bytes ≤ most = omega (arith, reads, ap length e, length-take most bytes) in
    e ∙ take_all most bytes some
