use Rattle.std.proofs.Common.{◌≡◌, ◌++◌, ℕ, length, map, flat_map}
use Rattle.std.specs.List.{All, AllZip}
use Rattle.std.specs.Vec.Iter.{into_iter_items}
use Rattle.ff_ring.specs.Names.{RingName}
use Rattle.ff_engine.specs.Boards.{AreFresh, AreNamed}
use Rattle.ff_engine.specs.Jobs.{IsFresh, IsOpened, RingSize}
use Rattle.ff_engine.specs.Lines.{HasEnds}
use Rattle.ff_engine.specs.RingSizes.{size_of, AreSized}
use Rattle.ff_engine.specs.Slots.{EachKept, Holds}
use Rattle.ff_engine.proofs.making.make_jobs.Given as goal

-- the jobs so far, and what is left for those behind them
abbrev pub invariant-loop-unit : goal.invariant-loop-unit
invariant-loop-unit g l = record {
  opened : AllZip (λ row unit. IsOpened g.U.Unit.does row unit) (into_iter_items l.rows) (into_iter_items l.unit-iterator);
  ins : Holds (flat_map (λ row. row.ins) (into_iter_items l.rows)) l.board.ins.items;
  outs : Holds (flat_map (λ row. row.outs) (into_iter_items l.rows)) l.board.outs.items;
  fresh : AreFresh l.board.ins.items l.board.outs.items;
  named : (name : ℕ → RingName) → AreNamed name l.initial.board.ins.items l.initial.board.outs.items → AreNamed name l.board.ins.items l.board.outs.items;
  sized : (size : ℕ → RingSize) → EachKept (λ e out. size_of out ≡ size e) l.initial.board.outs.items → EachKept (λ e out. size_of out ≡ size e) l.board.outs.items;
  units : map (λ job. job.unit) l.jobs.items ≡ l.yielded;
  rows : map (λ job. job.row) l.jobs.items ++ into_iter_items l.rows ≡ l.fn.rows.items;
  jobs : All (λ job. IsFresh g.U.Unit.does job) l.jobs.items;
  ends : (name : ℕ → RingName) → AreNamed name l.initial.board.ins.items l.initial.board.outs.items → All (λ job. HasEnds name job) l.jobs.items;
  sizes : (size : ℕ → RingSize) → EachKept (λ e out. size_of out ≡ size e) l.initial.board.outs.items → AreSized size l.jobs.items;
  places : length l.board.ins.items ≡ length l.initial.board.ins.items;
  out_places : length l.board.outs.items ≡ length l.initial.board.outs.items;
}
