-- Which half of a part waits, by what is done.
use Rattle.std.proofs.Common.{◌≡◌, ℕ, ◌≤◌, List, Option, Some, None, ℤ, refl, ap, sym, arith}
use Rattle.ff_dc_tasks.specs.declared.halves.Half.{Half}
use Rattle.ff_dc_tasks.specs.Pairs.{waiting}

-- where the left half isn't done, what waits is the right one
pub left-alone : (i j : ℕ) (w : Option (List ℤ)) → None ≡ waiting i None j w → w ≡ None
left-alone i j None none = refl
left-alone i j (Some w) none = absurd (cc)

pub left-met : (i j : ℕ) (w : Option (List ℤ)) (x : Half) → Some x ≡ waiting i None j w → (w ≡ Some x.values) × (x.number ≡ j)
left-met i j None x some = absurd (cc)
left-met i j (Some w) x some =
    let same : x ≡ record { number = j; values = w } = cc in
    (ap (λ (y : Half). Some y.values) (sym same), ap (λ (y : Half). y.number) same)

-- where the right half isn't done, what waits is the left one
pub right-alone : (i j : ℕ) (v : Option (List ℤ)) → None ≡ waiting i v j None → v ≡ None
right-alone i j None none = refl
right-alone i j (Some v) none = absurd (cc)

pub right-met : (i j : ℕ) (v : Option (List ℤ)) (x : Half) → Some x ≡ waiting i v j None → (v ≡ Some x.values) × (x.number ≡ i)
right-met i j None x some = absurd (cc)
right-met i j (Some v) x some =
    let same : x ≡ record { number = i; values = v } = cc in
    (ap (λ (y : Half). Some y.values) (sym same), ap (λ (y : Half). y.number) same)

-- halves that wait have a number behind that of their part
pub waiting-later : (i j : ℕ) (v w : Option (List ℤ)) (x : Half) → 1 ≤ i → 1 ≤ j → Some x ≡ waiting i v j w → 1 ≤ x.number
waiting-later i j None None x a b is = absurd (cc)
waiting-later i j None (Some w) x a b is =
    let same : x ≡ record { number = j; values = w } = cc in omega (arith, b, ap (λ (y : Half). y.number) same)
waiting-later i j (Some v) None x a b is =
    let same : x ≡ record { number = i; values = v } = cc in omega (arith, a, ap (λ (y : Half). y.number) same)
waiting-later i j (Some v) (Some w) x a b is = absurd (cc)
