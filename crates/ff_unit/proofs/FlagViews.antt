-- Flags as their fields show them.
use Rattle.std.specs.Prelude.{◌≡◌, ◌<◌, ◌≤◌, ℕ, Bool, true, false, List, length, take, slice_index_or, slice_set, replicate}
use Rattle.std.proofs.Common.{sym, ap, ◌∙◌, arith, get_or-take}
use Rattle.std.proofs.lemmas.List.{length-take-le, take-replicate}
use Rattle.std.proofs.Math.Seq.{take-set-lt}
use Rattle.ff_unit.specs.Closing.{any_live}
use Rattle.ff_unit.specs.FlagLaws.{any_live-at, any_live-closed}

module _ (flags : List Bool) (count : ℕ) (few : count ≤ length flags) where
  -- one of them is set
  pub take-set : (b : Bool) (live : List Bool) (k : ℕ) → take count flags ≡ live → k < length live → take count (slice_set flags k b) ≡ slice_set live k b
  take-set b live k is below =
      let within : k < count = omega (arith, below, ap length is, length-take-le count flags few) in
      take-set-lt count flags k b within ∙ ap (λ l. slice_set l k b) is

  -- all of them are set
  pub take-all : (b : Bool) (live : List Bool) → take count flags ≡ live → count ≤ 65 → take count (replicate 65 b) ≡ replicate (length live) b
  take-all b live is most =
      let number : count ≡ length live = sym (length-take-le count flags few) ∙ ap length is in
      take-replicate count 65 b most ∙ ap (λ n. replicate n b) number

  -- one of them is live
  pub take-some : (live : List Bool) (k : ℕ) → take count flags ≡ live → k < count → slice_index_or flags k false ≡ true → any_live live ≡ true
  take-some live k is below on = any_live-at live k (ap (λ l. slice_index_or l k false) (sym is) ∙ get_or-take count flags k false below ∙ on)

  -- none of them is live
  pub take-none : (live : List Bool) → take count flags ≡ live → ((k : ℕ) → k < count → slice_index_or flags k false ≡ false) → any_live live ≡ false
  take-none live is off =
      any_live-closed live (λ k below.
      let within : k < count = omega (arith, below, ap length is, length-take-le count flags few) in
      ap (λ l. slice_index_or l k false) (sym is) ∙ get_or-take count flags k false within ∙ off k within)
