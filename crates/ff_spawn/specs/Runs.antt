-- What a thread did with the job that it was handed.
use Rattle.std.specs.Prelude.{◌≡◌, List, [], ◌∷◌}

-- it was handed one job and no other, and ran that
pub record RanOne {J : Type 0} (done : J → J → Type 0) (handed : List J) (after : J) : Type 0 where
  pub before : J
  pub one : handed ≡ before ∷ []
  pub ran : done before after
