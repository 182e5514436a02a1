-- What spells networks.
use Rattle.std.specs.Prelude.{◌≡◌, ◌↔◌, ℕ, List, [], ◌++◌}
use Rattle.ff_ops.specs.Operation.{OpState}
use Rattle.ff_net.specs.Tree.{Tree}
use Rattle.ff_text.specs.Grammar.{spelling, IsNet}
use Rattle.ff_text.specs.Spelling.{Spells}
use Rattle.ff_text.specs.Tokens.{Token}

-- networks that are spelled alike are the same
abbrev pub SpellingIsOfOneNet : Type 0
SpellingIsOfOneNet = (t u : Tree OpState) (room : ℕ) → IsNet t room → IsNet u room → spelling t ≡ spelling u → t ≡ u

-- where no word stands for a network, a network is spelled by its tokens alone
abbrev pub SpelledWithoutNames : Type 0
SpelledWithoutNames = (t : Tree OpState) (ts rest : List Token) → Spells [] t ts rest ↔ (ts ≡ spelling t ++ rest)
