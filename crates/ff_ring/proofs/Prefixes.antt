-- The beginning of a list.
use Rattle.std.proofs.Common.{◌≤◌, List, length, ap, arith, length-append}
use mathlib.Core.List.{IsPrefix}

-- it is no longer than the list
pub length-prefix : {A : Type 0} (xs ys : List A) → IsPrefix xs ys → length xs ≤ length ys
length-prefix xs ys h = omega (arith, length-append xs h.0, ap length h.1)
