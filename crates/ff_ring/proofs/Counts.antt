-- How many bundles a ring holds.
use Rattle.std.proofs.Common.{ℕ, zero, suc, ◌*◌, ◌<◌, ◌≤◌, arith}
use Rattle.std.proofs.lemmas.Grind.{div_ceil_times}
use Rattle.ff_ring.specs.Sizes.{bundle_size, bundle_count}

-- what is more than one part has two parts
parts : (whole part k : ℕ) → part < whole → whole ≤ k * part → 2 ≤ k
parts whole part zero less most = omega arith
parts whole part (suc zero) less most = omega arith
parts whole part (suc (suc k)) less most = omega arith

some_parts : (whole part k : ℕ) → 1 ≤ whole → whole ≤ k * part → 1 ≤ k
some_parts whole part zero some most = omega arith
some_parts whole part (suc k) some most = omega arith

-- a bundle is at most half of the ring
pub bundle_count-from_two : (cap : ℕ) → 2 ≤ cap → 2 ≤ bundle_count cap
bundle_count-from_two cap h =
    let half : bundle_size cap < cap = omega arith in
    let some : 0 < bundle_size cap = omega arith in
    parts cap (bundle_size cap) (bundle_count cap) half (div_ceil_times cap (bundle_size cap) some).0

-- nor does it hold no bundle
pub bundle_count-from_one : (cap : ℕ) → 1 ≤ cap → 1 ≤ bundle_count cap
bundle_count-from_one cap h =
    let some : 0 < bundle_size cap = omega arith in
    some_parts cap (bundle_size cap) (bundle_count cap) h (div_ceil_times cap (bundle_size cap) some).0
