use Rattle.std.proofs.Common.{◌≡◌, ◌+◌, length, drop}
use Rattle.ff_net.specs.Tree.{trees_of}
use Rattle.ff_net.specs.Counts.{deepest}
use Rattle.ff_net.specs.Places.{all_piped, all_combed}
use Rattle.ff_net.specs.Room.{HasRoom}
use Rattle.ff_net.specs.Rules.{fails, places, first}
use Rattle.ff_net.proofs.find.+find.Given as goal

-- the parts that are left decide, each behind those before it
abbrev pub invariant-find_piped-loop-i : goal.invariant-find_piped-loop-i
invariant-find_piped-loop-i g l =
    let fail = fails g.N.Node.does l.version l.rule in
    let left = trees_of (drop l.i l.parts) in
    record {
      room : HasRoom l.rule (length l.path + 1) (deepest left);
      first : first (places fail (all_piped l.fn.spot l.path 1 (trees_of l.parts))) ≡ first (places fail (all_piped l.spot l.path (l.i + 1) left));
    }

-- the parts that are left decide
abbrev pub invariant-find_combed-loop-i : goal.invariant-find_combed-loop-i
invariant-find_combed-loop-i g l =
    let fail = fails g.N.Node.does l.version l.rule in
    let left = trees_of (drop l.i l.parts) in
    record {
      room : HasRoom l.rule (length l.path + 1) (deepest left);
      first : first (places fail (all_combed l.spot l.path 1 (trees_of l.parts))) ≡ first (places fail (all_combed l.spot l.path (l.i + 1) left));
    }
