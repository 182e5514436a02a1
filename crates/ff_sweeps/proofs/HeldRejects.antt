-- The rejects that units hold, as they are taken out.
use Rattle.std.proofs.Common.{◌≡◌, ℕ, zero, suc, ◌<◌, List, [], ◌∷◌, ◌++◌, length, refl, sym, ap, ◌∙◌, arith}
use Rattle.std.specs.Prelude.{slice_index_or, slice_set}
use Rattle.std.specs.List.{flat_map}
use Rattle.ff_rec.specs.Lines.{Rec}
use Rattle.ff_unit.specs.Units.{Doing}
use Rattle.ff_steps.specs.Rejects.{NoneBelow, HandsFirst}

module _ {U : Type 0} (d : Doing U) where
  pub held-none : (us : List U) → NoneBelow d us (length us) → flat_map d.kept us ≡ []
  held-none [] none = refl
  held-none (u ∷ us) none =
      ap (λ l. l ++ flat_map d.kept us) (none 0 u (omega arith) refl)
      ∙ held-none us (λ q v low is. none (suc q) v (omega (arith, low)) is)

  held-set : (us : List U) (p : ℕ) (old new : U) (x : Rec) → p < length us → NoneBelow d us p → old ≡ slice_index_or us p old
      → d.kept old ≡ x ∷ d.kept new → flat_map d.kept us ≡ x ∷ flat_map d.kept (slice_set us p new)
  held-set [] p old new x low none was held = absurd (omega (arith, low))
  held-set (u ∷ us) zero old new x low none was held = ap (λ l. l ++ flat_map d.kept us) (ap d.kept (sym was) ∙ held)
  held-set (u ∷ us) (suc p) old new x low none was held =
      let empty = none 0 u (omega arith) refl in
      ap (λ l. l ++ flat_map d.kept us) empty
      ∙ held-set us p old new x (omega (arith, low)) (λ q v below is. none (suc q) v (omega (arith, below)) is) was held
      ∙ ap (λ l. x ∷ (l ++ flat_map d.kept (slice_set us p new))) (sym empty)

  pub held-first : (us : List U) (x : Rec) (vs : List U) → HandsFirst d us x vs → flat_map d.kept us ≡ x ∷ flat_map d.kept vs
  held-first us x vs h =
      held-set us h.p h.old h.new x h.within h.below h.was h.held
      ∙ ap (λ l. x ∷ flat_map d.kept l) (sym h.is)
