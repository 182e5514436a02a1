-- Whether a node ended.
use Rattle.std.specs.Prelude.{Bool, true, false}
use Rattle.ff_node.specs.declared.class.Next.{Next}
use Rattle.ff_node.specs.declared.class.Next.TheVariants.{GoOn, Eos}

-- the node ends after this record
abbrev pub is_eos : Next → Bool
is_eos GoOn = false
is_eos Eos = true
