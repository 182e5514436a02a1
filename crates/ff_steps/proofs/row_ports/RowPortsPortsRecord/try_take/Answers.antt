-- A take at one edge of the row.
use Rattle.std.proofs.Common.{◌<◌, ◌∙◌, length, map, slice_index, refl, sym, ap}
use Rattle.ff_port.specs.Queues.{put_of, room_of}
use Rattle.ff_steps.proofs.Rests.{link_of-take, taken-put, edge_at-read}
use Rattle.ff_steps.proofs.RowEnds.{low-gots, map-ends_told, ends_at-away, is_among-index, TakesAt-row, knowns-others}
use Rattle.ff_steps.proofs.row_ports.RowPortsPortsRecord.try_take.Goals as goal

pub returns-clause-link : goal.returns-clause-link
returns-clause-link c =
    let s = c.args.self.now in
    let low : c.args.k < length s.ins.now = low-gots s.edges.now.items s.ins.now c.args.k c.requires in
    link_of-take _ s.edges.now.items s.ins.now s.outs.now (slice_index s.ins.now c.args.k) _ _ c.try_take.result (s.ins_within c.args.k low)
    (is_among-index s.ins.now c.args.k low) c.index_mut.ensures.value c.try_take.ensures.exact

pub returns-clause-takes : goal.returns-clause-takes
returns-clause-takes c =
    let s = c.args.self.now in
    let low : c.args.k < length s.ins.now = low-gots s.edges.now.items s.ins.now c.args.k c.requires in
    TakesAt-row s.edges.now.items s.ins.now c.args.k (slice_index s.ins.now c.args.k) low refl (s.ins_within c.args.k low) s.ins_differ
    c.index_mut.result.now c.try_take.new.self c.index_mut.ensures.value c.try_take.result c.try_take.ensures.takes

pub returns-clause-others : goal.returns-clause-others
returns-clause-others c =
    let s = c.args.self.now in
    let low : c.args.k < length s.ins.now = low-gots s.edges.now.items s.ins.now c.args.k c.requires in
    knowns-others s.edges.now.items s.ins.now c.args.k (slice_index s.ins.now c.args.k) low refl (s.ins_within c.args.k low) s.ins_differ
    c.index_mut.result.now c.try_take.new.self c.index_mut.ensures.value

pub returns-clause-puts : goal.returns-clause-puts
returns-clause-puts c =
    let s = c.args.self.now in
    let low : c.args.k < length s.ins.now = low-gots s.edges.now.items s.ins.now c.args.k c.requires in
    map-ends_told (λ x. put_of x) s.edges.now.items s.outs.now (slice_index s.ins.now c.args.k) c.try_take.new.self (s.ins_within c.args.k low)
    (taken-put c.index_mut.result.now c.try_take.new.self c.try_take.result c.try_take.ensures.exact
    ∙ ap (λ x. put_of x) (edge_at-read s.edges.now.items (slice_index s.ins.now c.args.k) c.index_mut.result.now (s.ins_within c.args.k low) c.index_mut.ensures.value))

pub returns-clause-rooms : goal.returns-clause-rooms
returns-clause-rooms c =
    let s = c.args.self.now in
    let low : c.args.k < length s.ins.now = low-gots s.edges.now.items s.ins.now c.args.k c.requires in
    ap (map (λ x. room_of x)) (ends_at-away s.edges.now.items s.outs.now (slice_index s.ins.now c.args.k) c.try_take.new.self
    (λ j j_low same. s.apart c.args.k j low j_low (sym same)))
