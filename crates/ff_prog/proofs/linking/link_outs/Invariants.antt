use Rattle.std.proofs.Common.{◌≡◌, map, take}
use Rattle.ff_prog.specs.Known.{at_name}
use Rattle.ff_prog.proofs.linking.link_outs.Given as goal

-- the links of the names so far
abbrev pub invariant-loop-name : goal.invariant-loop-name
invariant-loop-name l = l.links.items ≡ map (at_name l.writers.entries) (take l.name-index l.name-items)
