use Rattle.std.proofs.Common.{◌≡◌, length, take}
use Rattle.std.specs.List.{AllZip}
use Rattle.ff_engine.specs.Boards.{IsFreshPair, IsRingOf, IsReadAs}
use Rattle.ff_engine.proofs.board.make_rings.Given as goal

-- the rings so far
abbrev pub invariant-loop-edge : goal.invariant-loop-edge
invariant-loop-edge l = record {
  fresh : AllZip IsFreshPair l.ins.items l.outs.items;
  count : length l.ins.items ≡ l.edge-index;
  caps : AllZip (IsRingOf l.delivery l.rows) (take l.edge-index l.edges) l.outs.items;
  told : AllZip (IsReadAs l.delivery l.rows) (take l.edge-index l.edges) l.ins.items;
}
