-- Names that stand for networks.
use Rattle.std.specs.Prelude.{ℕ, if◌then◌else◌, List, [], ◌∷◌, Option, None, Some}
use Rattle.ff_rec.specs.Fields.{same_bytes}
use Rattle.ff_ops.specs.Operation.{OpState}
use Rattle.ff_net.specs.Tree.{Tree}
use Rattle.ff_net.specs.declared.net.Version.{Version}
use Rattle.ff_net.specs.declared.net.Version.TheVariants.{One}
use Rattle.ff_text.specs.Grammar.{IsNet, most_forms}

-- a word, and the network that it stands for
pub record Name : Type 0 where
  pub word : List ℕ
  pub net : Tree OpState

-- the network of a word; the first, where several have this word
abbrev pub net_named : List Name → List ℕ → Option (Tree OpState)
net_named [] word = None
net_named (n ∷ ns) word = if same_bytes n.word word then Some n.net else net_named ns word

-- each of the networks is one that a text can spell
abbrev pub AreNets : List Name → Type 0
AreNets [] = Unit {0}
AreNets (n ∷ ns) = IsNet n.net most_forms × AreNets ns

-- what marks and words of a text may mean: the version of the text, and the names that stand for networks in it
pub record Context : Type 0 where
  pub version : Version
  pub names : List Name

-- that of a whole text of version One: no word stands for a network
abbrev pub one : Context
one = record { version = One; names = [] }
