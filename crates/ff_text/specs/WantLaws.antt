-- What the machine of wants says of texts.
use Rattle.std.specs.Prelude.{◌≡◌, ◌↔◌, List, [], ◌∷◌, Ok, Err}
use Rattle.ff_ops.specs.Operation.{OpState}
use Rattle.ff_net.specs.Tree.{Tree}
use Rattle.ff_text.specs.Tokens.{Token, Stop, PlacedToken}
use Rattle.ff_text.specs.Grammar.{IsNet, most_forms}
use Rattle.ff_text.specs.Faults.{Fault, IsFault}
use Rattle.ff_text.specs.Names.{Context, AreNets, one}
use Rattle.ff_text.specs.Spelling.{Spells}
use Rattle.ff_text.specs.Wants.{run, walk, start}

-- what spells a network is taken whole, whatever words may stand for
abbrev pub TextsAreTaken : Type 0
TextsAreTaken =
    (context : Context) → AreNets context.names → (ts : List Token)
    → ((t : Tree OpState) × IsNet t most_forms × Spells context.names t ts (Stop ∷ [])) ↔ (run context ts start ≡ Ok [])

-- where the machine of version One stops is the first fault
abbrev pub StopsAreFaults : Type 0
StopsAreFaults = (spots : List PlacedToken) (f : Fault) → walk one spots start ≡ Err f → IsFault spots f
