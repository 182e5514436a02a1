-- Units that made no step: no reject was taken out of them.
use Rattle.std.proofs.Common.{◌≡◌, List, [], ◌∷◌, ◌++◌, map, refl, sym, ap, ◌∙◌}
use Rattle.std.specs.List.{flat_map}
use Rattle.ff_unit.specs.Units.{Doing, IsUnit}
use Rattle.ff_steps.proofs.Heads.{head-same, tail-same}

pub untaken-fresh : {U : Type 0} (d : Doing U) (laws : IsUnit d) (us : List U)
    → map d.opening us ≡ us → flat_map d.taken us ≡ []
untaken-fresh d laws [] made = refl
untaken-fresh d laws (u ∷ us) made =
    ap (λ l. l ++ flat_map d.taken us) (ap d.taken (sym (head-same made)) ∙ (laws.opened u).2)
    ∙ untaken-fresh d laws us (tail-same made)
