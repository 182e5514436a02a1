-- Whether the parties have ended, and whether one of them was cut off, by the ends of the units.
use Rattle.std.proofs.Common.{◌≡◌, ℕ, suc, ◌<◌, Bool, true, false, if◌then◌else◌, ◌&&◌, ◌||◌, List, [], ◌∷◌, ◌++◌, length, map, Option, None, Some, IsSome, slice_index_or, refl, sym, ap, ◌∙◌, arith}
use Rattle.std.specs.Prelude.{is_some}
use Rattle.std.specs.List.{list_all, list_any}
use Rattle.std.proofs.lemmas.Bool.{both_ways}
use Rattle.ff_port.specs.declared.answers.End.{End}
use Rattle.ff_unit.specs.Units.{Doing, IsUnit, end_of}
use Rattle.ff_steps.specs.Core.{CoreState, IsSound, all_ended, is_cut_off}
use Rattle.ff_steps.specs.Parties.{Feeder, Drainer, AsUnit, AsFeeder, AsDrainer, has_ended}
use Rattle.ff_steps.proofs.UnitRan.{Ran-unit}

-- a unit that has ended has an end
is_some-end : (done : Bool) (fin : Option End) → (done ≡ true → IsSome fin) → is_some (if done then fin else None) ≡ done
is_some-end true (Some e) ends = refl
is_some-end true None ends = absurd (both_ways false refl (ends refl))
is_some-end false fin ends = refl

list_all-units : {U : Type 0} (b : Doing U) (us : List U) (f : Feeder) (d : Drainer)
    → ((i : ℕ) (e : U) → i < length us → b.done (slice_index_or us i e) ≡ true → IsSome (b.fin (slice_index_or us i e)))
    → list_all (has_ended b) (map (λ u. AsUnit u) us ++ AsFeeder f ∷ AsDrainer d ∷ []) ≡ (list_all (λ u. is_some (end_of b u)) us && (f.done && d.done))
list_all-units b [] f d ends = ap (λ x. f.done && x) (and-true d.done)
  where
    and-true : (x : Bool) → (x && true) ≡ x
    and-true true = refl
    and-true false = refl
list_all-units {U} b (u ∷ us) f d ends =
    ap (λ x. b.done u && x) (list_all-units b us f d (λ i e low. ends (suc i) e (omega (arith, low))))
    ∙ and-assoc (b.done u) (list_all (λ v. is_some (end_of b v)) us) (f.done && d.done)
    ∙ ap (λ x. (x && list_all (λ v. is_some (end_of b v)) us) && (f.done && d.done)) (sym (is_some-end (b.done u) (b.fin u) (ends 0 u (omega arith))))
  where
    and-assoc : (x y z : Bool) → (x && (y && z)) ≡ ((x && y) && z)
    and-assoc true y z = refl
    and-assoc false y z = refl

-- all parties
pub all_ended-units : {U : Type 0} (b : Doing U) → IsUnit b → (c : CoreState U) → IsSound b c
    → all_ended b c ≡ (list_all (λ u. is_some (end_of b u)) c.units && (c.feeder.done && c.drainer.done))
all_ended-units b laws c sound =
    list_all-units b c.units c.feeder c.drainer (λ i e low done. laws.ends (slice_index_or c.units i e) _ _ (Ran-unit b c sound i e low) done)

-- a unit that was cut off
is_cut_off-end : (done : Bool) (fin : Option End) → is_cut_off (if done then fin else None) ≡ (done && is_cut_off fin)
is_cut_off-end true fin = refl
is_cut_off-end false fin = refl

pub list_any-cut_off : {U : Type 0} (b : Doing U) (us : List U) → list_any (λ u. is_cut_off (end_of b u)) us ≡ list_any (λ u. b.done u && is_cut_off (b.fin u)) us
list_any-cut_off b [] = refl
list_any-cut_off b (u ∷ us) =
    ap (λ x. x || list_any (λ v. is_cut_off (end_of b v)) us) (is_cut_off-end (b.done u) (b.fin u))
    ∙ ap (λ x. (b.done u && is_cut_off (b.fin u)) || x) (list_any-cut_off b us)
