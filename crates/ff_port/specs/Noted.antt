-- The elements of a past.
use Rattle.std.specs.Prelude.{List, [], ◌∷◌, ◌++◌}
use Rattle.ff_port.specs.declared.past.Last.{Last}
use Rattle.ff_port.specs.declared.past.Last.TheVariants.{Nothing, Noted}

-- the newest stands last
abbrev pub noted : {E : Type 0} → Last E → List E
noted Nothing = []
noted (Noted x before) = before.value ++ x.value ∷ []
