-- Each edge has a ring: the caller takes his ends, and each job its own.
use Rattle.std.proofs.Common.{◌≡◌, ◌+◌, ◌∷◌, [], None, length, flat_map, sym, ap, ◌∙◌, subst, arith}
use Rattle.std.proofs.lemmas.List.{length-set}
use Rattle.ff_plan.specs.Rows.{Row}
use Rattle.ff_ring.specs.Ends.{written_ring}
use Rattle.ff_engine.specs.Boards.{AreFresh, AreNamed}
use Rattle.ff_engine.specs.Lines.{read_edges, written_edges}
use Rattle.ff_engine.specs.RingSizes.{size_of}
use Rattle.ff_engine.specs.Slots.{EachKept, Holds, emptied}
use Rattle.ff_engine.proofs.SlotLaws.{EachKept-emptied}
use Rattle.ff_engine.proofs.BoardLaws.{AreFresh-emptied, AreFresh-rings, AreNamed-emptied, AreNamed-rings, Holds-ins, Holds-outs, length-both, name_in, sizes-rings}
use Rattle.ff_engine.proofs.linking.link_units.Goals as goal

pub take_outer-first-requires-clause-first : goal.take_outer-first-requires-clause-first
take_outer-first-requires-clause-first g c =
    let b = c.in_ok-board.board in
    ((Holds-outs b.ins.items b.outs.items c.in_ok-board.ensures.fresh (written_edges c.args.rows.items) (length c.args.edges.now) c.requires.wired.writes c.in_ok-board.ensures.count).0, tt)

pub take_outer-first-requires-clause-last : goal.take_outer-first-requires-clause-last
take_outer-first-requires-clause-last g c =
    let b = c.in_ok-board.board in
    ((Holds-ins b.ins.items b.outs.items c.in_ok-board.ensures.fresh (read_edges c.args.rows.items) (length c.args.edges.now) c.requires.wired.reads c.in_ok-board.ensures.count).0, tt)

pub make_jobs-requires-clause-ins : goal.make_jobs-requires-clause-ins
make_jobs-requires-clause-ins g c =
    let b = c.in_ok-board.board in
    subst (λ s. Holds (flat_map (λ (row : Row). row.ins) c.args.rows.items) s) (sym c.take_outer-first.ensures.ins)
    (Holds-ins b.ins.items b.outs.items c.in_ok-board.ensures.fresh (read_edges c.args.rows.items) (length c.args.edges.now) c.requires.wired.reads c.in_ok-board.ensures.count).1

pub make_jobs-requires-clause-outs : goal.make_jobs-requires-clause-outs
make_jobs-requires-clause-outs g c =
    let b = c.in_ok-board.board in
    subst (λ s. Holds (flat_map (λ (row : Row). row.outs) c.args.rows.items) s) (sym c.take_outer-first.ensures.outs)
    (Holds-outs b.ins.items b.outs.items c.in_ok-board.ensures.fresh (written_edges c.args.rows.items) (length c.args.edges.now) c.requires.wired.writes c.in_ok-board.ensures.count).1

pub make_jobs-requires-clause-fresh : goal.make_jobs-requires-clause-fresh
make_jobs-requires-clause-fresh g c =
    let b = c.in_ok-board.board in
    subst (λ s. AreFresh s c.take_outer-first.new.board.outs.items) (sym c.take_outer-first.ensures.ins)
    (subst (λ s. AreFresh (emptied (1 ∷ []) b.ins.items) s) (sym c.take_outer-first.ensures.outs)
    (AreFresh-emptied b.ins.items b.outs.items (1 ∷ []) (0 ∷ []) (AreFresh-rings b.ins.items b.outs.items c.in_ok-board.ensures.fresh)))

pub returns-clause-linked : goal.returns-clause-linked
returns-clause-linked g c =
    let b = c.in_ok-board.board in
    let outer = c.take_outer-first in
    let name = name_in b.ins.items b.outs.items c.in_ok-board.ensures.fresh (written_ring outer.result.0) in
    let named = AreNamed-rings b.ins.items b.outs.items c.in_ok-board.ensures.fresh (written_ring outer.result.0) in record {
      name = name;
      first_is = named.writes 0 outer.result.0 outer.ensures.first;
      last_is = named.reads 1 outer.result.1 outer.ensures.last;
      each = c.in_ok-jobs.ensures.ends name
          (subst (λ s. AreNamed name s outer.new.board.outs.items) (sym outer.ensures.ins)
          (subst (λ s. AreNamed name (emptied (1 ∷ []) b.ins.items) s) (sym outer.ensures.outs)
          (AreNamed-emptied b.ins.items b.outs.items name (1 ∷ []) (0 ∷ []) named)));
    }

pub returns-clause-sizes : goal.returns-clause-sizes
returns-clause-sizes g c = λ size are.
    let b = c.in_ok-board.board in
    let kept : EachKept (λ e out. size_of out ≡ size e) b.outs.items =
    λ e out is.
    let from_first : 0 + e ≡ e = omega arith in
    sizes-rings c.args.delivery c.deref.result.now c.args.edges.now b.outs.items c.in_ok-board.ensures.caps size 0 are e out is ∙ ap size from_first in
    c.in_ok-jobs.ensures.sizes size
    (subst (λ s. EachKept (λ e out. size_of out ≡ size e) s) (sym c.take_outer-first.ensures.outs) (EachKept-emptied (λ e out. size_of out ≡ size e) (0 ∷ []) b.outs.items kept))

pub returns-clause-first : goal.returns-clause-first
returns-clause-first g c = λ size are.
    let b = c.in_ok-board.board in
    sizes-rings c.args.delivery c.deref.result.now c.args.edges.now b.outs.items c.in_ok-board.ensures.caps size 0 are 0 c.take_outer-first.result.0 c.take_outer-first.ensures.first

pub returns-clause-put : goal.returns-clause-put
returns-clause-put g c =
    let b = c.in_ok-board.board in
    (AreFresh-rings b.ins.items b.outs.items c.in_ok-board.ensures.fresh).put 0 c.take_outer-first.result.0 c.take_outer-first.ensures.first

pub returns-clause-got : goal.returns-clause-got
returns-clause-got g c =
    let b = c.in_ok-board.board in
    (AreFresh-rings b.ins.items b.outs.items c.in_ok-board.ensures.fresh).got 1 c.take_outer-first.result.1 c.take_outer-first.ensures.last

pub returns-clause-outs : goal.returns-clause-outs
returns-clause-outs g c =
    let b = c.in_ok-board.board in
    c.in_ok-jobs.ensures.out_places ∙ ap length c.take_outer-first.ensures.outs ∙ length-set b.outs.items 0 None
    ∙ length-both b.ins.items b.outs.items c.in_ok-board.ensures.fresh ∙ c.in_ok-board.ensures.count
