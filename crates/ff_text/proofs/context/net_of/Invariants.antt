use Rattle.std.proofs.Common.{◌≡◌, map, drop}
use Rattle.ff_text.specs.Names.{net_named, AreNets}
use Rattle.ff_text.specs.Seen.{name_of}
use Rattle.ff_text.proofs.context.net_of.Given as goal

-- the first of the names that are left decides
abbrev pub invariant-loop-named : goal.invariant-loop-named
invariant-loop-named l = record {
  left : net_named (map name_of l.names) l.word ≡ net_named (map name_of (drop l.named-index l.names)) l.word;
  nets : AreNets (map name_of (drop l.named-index l.names));
}
