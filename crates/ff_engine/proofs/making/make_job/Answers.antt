-- Its ends are those that were taken out by the edges of its row.
use Rattle.std.proofs.Common.{map, sym, ap, ◌∙◌, subst}
use Rattle.ff_engine.specs.Jobs.{JobState, IsOpened}
use Rattle.ff_engine.specs.Slots.{taken_out}
use Rattle.ff_engine.proofs.BoardLaws.{IsFresh-made, gots-taken, puts-taken, reads-taken, rooms-taken, sizes-taken, writes-taken}
use Rattle.ff_engine.proofs.making.make_job.Goals as goal

pub new-requires-clause-gots : goal.new-requires-clause-gots
new-requires-clause-gots g c =
    gots-taken c.row.inside.ins c.args.board.now.ins.items c.in_ok-ins.ins.items
    (c.in_ok-ins.ensures.ends ∙ ap (λ ks. taken_out ks c.args.board.now.ins.items) c.as_slice.ensures) c.requires.fresh.got

pub new-requires-clause-puts : goal.new-requires-clause-puts
new-requires-clause-puts g c =
    puts-taken c.row.inside.outs c.args.board.now.outs.items c.in_ok-outs.outs.items
    (c.in_ok-outs.ensures.ends ∙ ap (λ ks. taken_out ks c.args.board.now.outs.items) c.as_slice-2.ensures) c.requires.fresh.put

pub returns-clause-fresh : goal.returns-clause-fresh
returns-clause-fresh g c =
    IsFresh-made g.U.Unit.does _ c.args.unit c.new.result _ _ _ _
    (subst (λ row. IsOpened g.U.Unit.does row c.args.unit) (sym c.row.view_is) c.requires.opened) c.new.ensures
    (rooms-taken c.row.inside.outs c.args.board.now.outs.items c.in_ok-outs.outs.items
    (c.in_ok-outs.ensures.ends ∙ ap (λ ks. taken_out ks c.args.board.now.outs.items) c.as_slice-2.ensures) c.requires.fresh.room)

pub returns-clause-ends : goal.returns-clause-ends
returns-clause-ends g c = λ name named. record {
  reads = ap (λ j. j.reads) c.new.ensures
      ∙ reads-taken c.row.inside.ins c.args.board.now.ins.items c.in_ok-ins.ins.items
      (c.in_ok-ins.ensures.ends ∙ ap (λ ks. taken_out ks c.args.board.now.ins.items) c.as_slice.ensures) name named.reads
      ∙ ap (λ (j : JobState g.row.U.Denot). map name j.row.ins) (sym c.new.ensures);
  writes = ap (λ j. j.writes) c.new.ensures
      ∙ writes-taken c.row.inside.outs c.args.board.now.outs.items c.in_ok-outs.outs.items
      (c.in_ok-outs.ensures.ends ∙ ap (λ ks. taken_out ks c.args.board.now.outs.items) c.as_slice-2.ensures) name named.writes
      ∙ ap (λ (j : JobState g.row.U.Denot). map name j.row.outs) (sym c.new.ensures);
}

pub returns-clause-sizes : goal.returns-clause-sizes
returns-clause-sizes g c = λ size sized.
    ap (λ j. j.sizes) c.new.ensures
    ∙ sizes-taken c.row.inside.outs c.args.board.now.outs.items c.in_ok-outs.outs.items
    (c.in_ok-outs.ensures.ends ∙ ap (λ ks. taken_out ks c.args.board.now.outs.items) c.as_slice-2.ensures) size sized
    ∙ ap (λ (j : JobState g.row.U.Denot). map size j.row.outs) (sym c.new.ensures)
