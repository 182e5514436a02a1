-- Laws of what files keep, for callers that make several calls one after another.
use Rattle.std.specs.Prelude.{List, ℕ, Option, None, Some}
use Rattle.std.proofs.Common.{◌∙◌, refl}
use Rattle.ff_io.specs.Files.{Holdings, KeepsAll, KeepsOthers}

-- no call
pub KeepsAll-refl : (told : Option Holdings) → KeepsAll told told
KeepsAll-refl None = tt
KeepsAll-refl (Some holds) = λ name. refl

-- one call after another
pub KeepsAll-trans : (first second third : Option Holdings) → KeepsAll first second → KeepsAll second third → KeepsAll first third
KeepsAll-trans None second third h k = tt
KeepsAll-trans (Some f) None third h k = absurd h
KeepsAll-trans (Some f) (Some g) None h k = absurd k
KeepsAll-trans (Some f) (Some g) (Some e) h k = λ name. k name ∙ h name

pub KeepsOthers-trans : (first second third : Option Holdings) (name : List ℕ) → KeepsOthers first second name → KeepsOthers second third name → KeepsOthers first third name
KeepsOthers-trans None second third name h k = tt
KeepsOthers-trans (Some f) None third name h k = absurd h
KeepsOthers-trans (Some f) (Some g) None name h k = absurd k
KeepsOthers-trans (Some f) (Some g) (Some e) name h k = λ other differs. k other differs ∙ h other differs

-- what keeps every name keeps all but one
pub KeepsOthers-from_KeepsAll : (first second : Option Holdings) (name : List ℕ) → KeepsAll first second → KeepsOthers first second name
KeepsOthers-from_KeepsAll None second name h = tt
KeepsOthers-from_KeepsAll (Some f) None name h = h
KeepsOthers-from_KeepsAll (Some f) (Some g) name h = λ other differs. h other
