-- What is run.
use Rattle.std.specs.Prelude.{ℕ, Bool}
use Rattle.ff_node.specs.Behaviour.{Behaviour}
use Rattle.ff_net.specs.Tree.{Tree}
use Rattle.ff_net.specs.declared.net.Version.{Version}

-- a network with what its nodes do, its version, the most tasks of a wrap, and whether rejected records are kept
pub record Job (N : Type 0) : Type 0 where
  pub does : Behaviour N
  pub net : Tree N
  pub version : Version
  pub tasks : ℕ
  pub keep : Bool

-- the job of these
abbrev pub job : {N : Type 0} → Behaviour N → Tree N → Version → ℕ → Bool → Job N
job does net version tasks keep = record { does = does; net = net; version = version; tasks = tasks; keep = keep }
