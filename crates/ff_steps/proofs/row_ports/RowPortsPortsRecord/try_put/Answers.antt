-- A put at one edge of the row.
use Rattle.std.proofs.Common.{◌<◌, ◌∙◌, length, map, slice_index, refl, ap}
use Rattle.ff_steps.proofs.Rests.{link_of-put, put-got, edge_at-read}
use Rattle.ff_steps.proofs.RowEnds.{low-puts, map-ends_told, ends_at-away, is_among-index, PutsAt-row, rooms-others, IsOpen-row}
use Rattle.ff_steps.proofs.row_ports.RowPortsPortsRecord.try_put.Goals as goal

pub try_put-requires : goal.try_put-requires
try_put-requires c =
    let s = c.args.self.now in
    let low : c.args.k < length s.outs.now = low-puts s.edges.now.items s.outs.now c.args.k c.requires.within in
    IsOpen-row s.edges.now.items s.outs.now c.args.k (slice_index s.outs.now c.args.k) low refl (s.outs_within c.args.k low) s.outs_differ
    c.index_mut.result.now c.index_mut.result.now c.index_mut.ensures.value c.requires.inner

pub returns-clause-link : goal.returns-clause-link
returns-clause-link c =
    let s = c.args.self.now in
    let low : c.args.k < length s.outs.now = low-puts s.edges.now.items s.outs.now c.args.k c.requires.within in
    link_of-put _ s.edges.now.items s.ins.now s.outs.now (slice_index s.outs.now c.args.k) _ _ c.args.m c.try_put.result (s.outs_within c.args.k low)
    (is_among-index s.outs.now c.args.k low) c.index_mut.ensures.value c.try_put.ensures.exact

pub returns-clause-puts : goal.returns-clause-puts
returns-clause-puts c =
    let s = c.args.self.now in
    let low : c.args.k < length s.outs.now = low-puts s.edges.now.items s.outs.now c.args.k c.requires.within in
    PutsAt-row s.edges.now.items s.outs.now c.args.k (slice_index s.outs.now c.args.k) low refl (s.outs_within c.args.k low) s.outs_differ
    c.index_mut.result.now c.try_put.new.self c.index_mut.ensures.value c.args.m c.try_put.result c.try_put.ensures.puts

pub returns-clause-others : goal.returns-clause-others
returns-clause-others c =
    let s = c.args.self.now in
    let low : c.args.k < length s.outs.now = low-puts s.edges.now.items s.outs.now c.args.k c.requires.within in
    rooms-others s.edges.now.items s.outs.now c.args.k (slice_index s.outs.now c.args.k) low refl (s.outs_within c.args.k low) s.outs_differ
    c.index_mut.result.now c.try_put.new.self c.index_mut.ensures.value

pub returns-clause-gots : goal.returns-clause-gots
returns-clause-gots c =
    let s = c.args.self.now in
    let low : c.args.k < length s.outs.now = low-puts s.edges.now.items s.outs.now c.args.k c.requires.within in
    map-ends_told (λ x. x.got) s.edges.now.items s.ins.now (slice_index s.outs.now c.args.k) c.try_put.new.self (s.outs_within c.args.k low)
    (put-got c.index_mut.result.now c.try_put.new.self c.args.m c.try_put.result c.try_put.ensures.exact
    ∙ ap (λ x. x.got) (edge_at-read s.edges.now.items (slice_index s.outs.now c.args.k) c.index_mut.result.now (s.outs_within c.args.k low) c.index_mut.ensures.value))

pub returns-clause-knowns : goal.returns-clause-knowns
returns-clause-knowns c =
    let s = c.args.self.now in
    let low : c.args.k < length s.outs.now = low-puts s.edges.now.items s.outs.now c.args.k c.requires.within in
    ap (map (λ x. length x.inside)) (ends_at-away s.edges.now.items s.ins.now (slice_index s.outs.now c.args.k) c.try_put.new.self
    (λ j j_low same. s.apart j c.args.k j_low low same))
