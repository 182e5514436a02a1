-- Each end is put back at its edge, and then all rings are settled.
use Rattle.std.proofs.Common.{◌≡◌, ◌<◌, ◌++◌, ◌∷◌, [], Some, length, map, flat_map, set, sym, ap, ap₂, ◌∙◌, subst, append_assoc, append-nil, arith}
use Rattle.std.proofs.lemmas.List.{length-map, length-set, map-set, nil_from_length}
use Rattle.std.proofs.lemmas.List.Elements.{All-head, All-tail}
use Rattle.std.specs.List.{All, AllZip}
use Rattle.std.specs.Option.{option_map}
use Rattle.std.specs.Vec.Iter.{into_iter_items}
use Rattle.ff_plan.specs.Rows.{Row}
use Rattle.ff_ring.specs.Ends.{got_of, put_of, read_ring, written_ring}
use Rattle.ff_engine.specs.Boards.{IsFirst, gots_on, puts_on, reads_on, writes_on}
use Rattle.ff_engine.specs.Jobs.{JobState}
use Rattle.ff_engine.specs.Slots.{placed_all}
use Rattle.ff_engine.proofs.Settlings.{IsSettled-rings, same_rings, within_ins, within_outs}
use Rattle.ff_engine.proofs.SlotLaws.{All-back, All-front, length-placed, placed_all-next}
use Rattle.ff_engine.proofs.settling.settle_jobs.Goals as goal

pub index_mut-requires : goal.index_mut-requires
index_mut-requires g c =
    let n = length c.args.board.ins.items in
    let edges = flat_map (λ (job : JobState g.row.U.Denot). job.row.outs) c.args.jobs.items in
    let low : 0 < n = All-head (λ e. e < n) 0 edges
    (within_outs c.args.jobs.items (written_ring c.args.first) (read_ring c.args.last) c.requires.linked c.requires.ports n c.requires.wired) in
    omega (arith, low, c.requires.places, c.args.board.outs.ok.0)

pub index_mut-requires-2 : goal.index_mut-requires-2
index_mut-requires-2 g c =
    let n = length c.args.board.ins.items in
    let edges = flat_map (λ (job : JobState g.row.U.Denot). job.row.ins) c.args.jobs.items in
    let low : 1 < n = All-head (λ e. e < n) 1 edges
    (within_ins c.args.jobs.items (written_ring c.args.first) (read_ring c.args.last) c.requires.linked c.requires.ports n c.requires.wired) in
    omega (arith, low, c.args.board.ins.ok.0)

pub loop-job-init : goal.loop-job-init
loop-job-init g c =
    let n = length c.args.board.ins.items in
    let ins = c.args.board.ins.items in
    let outs = c.args.board.outs.items in
    let jobs = c.args.jobs.items in
    let begins = c.into_iter-job-iterator.ensures.into_iter_gives in
    let first = written_ring c.args.first in
    let last = read_ring c.args.last in record {
      reads = ap₂ (λ js s. placed_all (λ (job : JobState g.row.U.Denot). job.row.ins) (λ job. job.reads) js s) begins.0 (map-set (λ i. option_map (λ r. read_ring r) i) ins 1 (Some c.args.last));
      gots = ap₂ (λ js s. placed_all (λ (job : JobState g.row.U.Denot). job.row.ins) (λ job. job.gots) js s) begins.0 (map-set (λ i. option_map (λ r. got_of r) i) ins 1 (Some c.args.last));
      writes = ap₂ (λ js s. placed_all (λ (job : JobState g.row.U.Denot). job.row.outs) (λ job. job.writes) js s) begins.0 (map-set (λ o. option_map (λ r. written_ring r) o) outs 0 (Some c.args.first));
      puts = ap₂ (λ js s. placed_all (λ (job : JobState g.row.U.Denot). job.row.outs) (λ job. job.puts) js s) begins.0 (map-set (λ o. option_map (λ r. put_of r) o) outs 0 (Some c.args.first));
      many_ins = length-set ins 1 (Some c.args.last);
      many_outs = length-set outs 0 (Some c.args.first) ∙ c.requires.places;
      within_ins = subst (λ js. All (λ e. e < n) (flat_map (λ (job : JobState g.row.U.Denot). job.row.ins) js)) (sym begins.0)
          (All-tail (λ e. e < n) 1 (flat_map (λ (job : JobState g.row.U.Denot). job.row.ins) jobs) (within_ins jobs first last c.requires.linked c.requires.ports n c.requires.wired));
      within_outs = subst (λ js. All (λ e. e < n) (flat_map (λ (job : JobState g.row.U.Denot). job.row.outs) js)) (sym begins.0)
          (All-tail (λ e. e < n) 0 (flat_map (λ (job : JobState g.row.U.Denot). job.row.outs) jobs) (within_outs jobs first last c.requires.linked c.requires.ports n c.requires.wired));
      units = ap₂ (λ us js. us ++ map (λ (job : JobState g.row.U.Denot). job.unit) js) c.requires.empty begins.0;
      room = omega (arith, begins.1, c.requires.room, c.args.units.now.ok.0, ap length c.requires.empty);
    }

pub put_ends-requires : goal.put_ends-requires
put_ends-requires g c =
    let n = length c.args.board.ins.items in
    let job = c.in-Some.job in
    let rest = into_iter_items c.next.new.self in
    let where_at : c.as_slice.result.now ≡ job.row.ins = c.as_slice.ensures ∙ ap (λ (r : Row). r.ins) (c.row.view_is ∙ c.into_parts-unit.ensures.row) in
    let all : All (λ e. e < n) (flat_map (λ (j : JobState g.row.U.Denot). j.row.ins) (job ∷ rest)) =
    subst (λ js. All (λ e. e < n) (flat_map (λ (j : JobState g.row.U.Denot). j.row.ins) js)) c.in-Some.ensures.steps.0 c.loop-job.invariant.within_ins in
    subst (λ m. All (λ e. e < m) c.as_slice.result.now) (sym c.loop-job.invariant.many_ins)
    (subst (λ ks. All (λ e. e < n) ks) (sym where_at) (All-front (λ e. e < n) job.row.ins (flat_map (λ (j : JobState g.row.U.Denot). j.row.ins) rest) all))

pub put_ends-requires-in-loop-job : goal.put_ends-requires-in-loop-job
put_ends-requires-in-loop-job g c =
    let n = length c.args.board.ins.items in
    let job = c.in-Some.job in
    let rest = into_iter_items c.next.new.self in
    let where_at : c.as_slice-in-loop-job.result.now ≡ job.row.outs =
    c.as_slice-in-loop-job.ensures ∙ ap (λ (r : Row). r.outs) (c.row.view_is ∙ c.into_parts-unit.ensures.row) in
    let all : All (λ e. e < n) (flat_map (λ (j : JobState g.row.U.Denot). j.row.outs) (job ∷ rest)) =
    subst (λ js. All (λ e. e < n) (flat_map (λ (j : JobState g.row.U.Denot). j.row.outs) js)) c.in-Some.ensures.steps.0 c.loop-job.invariant.within_outs in
    subst (λ m. All (λ e. e < m) c.as_slice-in-loop-job.result.now) (sym c.loop-job.invariant.many_outs)
    (subst (λ ks. All (λ e. e < n) ks) (sym where_at) (All-front (λ e. e < n) job.row.outs (flat_map (λ (j : JobState g.row.U.Denot). j.row.outs) rest) all))

pub loop-job-preserved : goal.loop-job-preserved
loop-job-preserved g c =
    let n = length c.args.board.ins.items in
    let before = c.loop-job.invariant in
    let job = c.in-Some.job in
    let next = c.in-Some.ensures.steps in
    let rest = into_iter_items c.next.new.self in
    let all = into_iter_items c.loop-job.job-iterator in
    let parts = c.into_parts-unit.ensures in
    let ins = c.loop-job.ins.items in
    let outs = c.loop-job.outs.items in
    let own_ins = c.into_parts-unit.result.2.items in
    let own_outs = c.into_parts-unit.result.3.items in
    let at_ins : c.as_slice.result.now ≡ job.row.ins = c.as_slice.ensures ∙ ap (λ (r : Row). r.ins) (c.row.view_is ∙ parts.row) in
    let at_outs : c.as_slice-in-loop-job.result.now ≡ job.row.outs = c.as_slice-in-loop-job.ensures ∙ ap (λ (r : Row). r.outs) (c.row.view_is ∙ parts.row) in
    let pushed : c.push_reserved.new.self.items ≡ c.loop-job.units.items ++ job.unit ∷ [] =
    c.push_reserved.ensures.items ∙ ap (λ u. c.loop-job.units.items ++ u ∷ []) parts.unit in record {
      reads = placed_all-next (λ r. read_ring r) (λ (j : JobState g.row.U.Denot). j.row.ins) (λ j. j.reads) job rest all c.as_slice.result.now own_ins ins c.put_ends.new.slots.items _
          next.0 c.put_ends.ensures at_ins parts.reads before.reads;
      gots = placed_all-next (λ r. got_of r) (λ (j : JobState g.row.U.Denot). j.row.ins) (λ j. j.gots) job rest all c.as_slice.result.now own_ins ins c.put_ends.new.slots.items _
          next.0 c.put_ends.ensures at_ins parts.gots before.gots;
      writes = placed_all-next (λ r. written_ring r) (λ (j : JobState g.row.U.Denot). j.row.outs) (λ j. j.writes) job rest all c.as_slice-in-loop-job.result.now own_outs outs
          c.put_ends-in-loop-job.new.slots.items _ next.0 c.put_ends-in-loop-job.ensures at_outs parts.writes before.writes;
      puts = placed_all-next (λ r. put_of r) (λ (j : JobState g.row.U.Denot). j.row.outs) (λ j. j.puts) job rest all c.as_slice-in-loop-job.result.now own_outs outs
          c.put_ends-in-loop-job.new.slots.items _ next.0 c.put_ends-in-loop-job.ensures at_outs parts.puts before.puts;
      many_ins = ap length c.put_ends.ensures ∙ length-placed c.as_slice.result.now own_ins ins ∙ before.many_ins;
      many_outs = ap length c.put_ends-in-loop-job.ensures ∙ length-placed c.as_slice-in-loop-job.result.now own_outs outs ∙ before.many_outs;
      within_ins = All-back (λ e. e < n) job.row.ins (flat_map (λ (j : JobState g.row.U.Denot). j.row.ins) rest)
          (subst (λ js. All (λ e. e < n) (flat_map (λ (j : JobState g.row.U.Denot). j.row.ins) js)) next.0 before.within_ins);
      within_outs = All-back (λ e. e < n) job.row.outs (flat_map (λ (j : JobState g.row.U.Denot). j.row.outs) rest)
          (subst (λ js. All (λ e. e < n) (flat_map (λ (j : JobState g.row.U.Denot). j.row.outs) js)) next.0 before.within_outs);
      units = ap (λ us. us ++ map (λ (j : JobState g.row.U.Denot). j.unit) rest) pushed ∙ append_assoc c.loop-job.units.items (job.unit ∷ []) (map (λ (j : JobState g.row.U.Denot). j.unit) rest)
          ∙ ap (λ js. c.loop-job.units.items ++ map (λ (j : JobState g.row.U.Denot). j.unit) js) (sym next.0) ∙ before.units;
      room = omega (arith, next.1, c.push_reserved.ensures.len, c.push_reserved.ensures.capacity, before.room);
    }

pub settle_rings-requires : goal.settle_rings-requires
settle_rings-requires g c =
    let n = length c.args.board.ins.items in
    let none : into_iter_items c.loop-job.job-iterator ≡ [] =
    nil_from_length (into_iter_items c.loop-job.job-iterator) (omega (arith, c.loop-job.job-iterator.rest.ok.0, c.in-None.ensures.steps.0)) in
    sym (ap (λ js. placed_all (λ (j : JobState g.row.U.Denot). j.row.ins) (λ j. j.reads) js (reads_on c.loop-job.ins.items)) none) ∙ c.loop-job.invariant.reads
    ∙ same_rings c.args.jobs.items (written_ring c.args.first) (read_ring c.args.last) c.requires.linked c.requires.ports n c.requires.wired
    (reads_on c.args.board.ins.items) (writes_on c.args.board.outs.items) (length-map c.args.board.ins.items (λ i. option_map (λ r. read_ring r) i))
    (length-map c.args.board.outs.items (λ o. option_map (λ r. written_ring r) o) ∙ c.requires.places)
    ∙ sym (sym (ap (λ js. placed_all (λ (j : JobState g.row.U.Denot). j.row.outs) (λ j. j.writes) js (writes_on c.loop-job.outs.items)) none) ∙ c.loop-job.invariant.writes)

pub returns-clause-units : goal.returns-clause-units
returns-clause-units g c =
    let none : into_iter_items c.loop-job.job-iterator ≡ [] =
    nil_from_length (into_iter_items c.loop-job.job-iterator) (omega (arith, c.loop-job.job-iterator.rest.ok.0, c.in-None.ensures.steps.0)) in
    sym (append-nil c.loop-job.units.items) ∙ ap (λ js. c.loop-job.units.items ++ map (λ (j : JobState g.row.U.Denot). j.unit) js) (sym none) ∙ c.loop-job.invariant.units

pub returns-clause-settled : goal.returns-clause-settled
returns-clause-settled g c =
    let n = length c.args.board.ins.items in
    let none : into_iter_items c.loop-job.job-iterator ≡ [] =
    nil_from_length (into_iter_items c.loop-job.job-iterator) (omega (arith, c.loop-job.job-iterator.rest.ok.0, c.in-None.ensures.steps.0)) in
    let gots = sym (ap (λ js. placed_all (λ (j : JobState g.row.U.Denot). j.row.ins) (λ j. j.gots) js (gots_on c.loop-job.ins.items)) none) ∙ c.loop-job.invariant.gots in
    let puts = sym (ap (λ js. placed_all (λ (j : JobState g.row.U.Denot). j.row.outs) (λ j. j.puts) js (puts_on c.loop-job.outs.items)) none) ∙ c.loop-job.invariant.puts in
    IsSettled-rings c.args.jobs.items (written_ring c.args.first) (read_ring c.args.last) c.requires.linked c.requires.ports n c.requires.wired
    (put_of c.args.first) (got_of c.args.last) (gots_on c.args.board.ins.items) (puts_on c.args.board.outs.items)
    (length-map c.args.board.ins.items (λ i. option_map (λ r. got_of r) i))
    (length-map c.args.board.outs.items (λ o. option_map (λ r. put_of r) o) ∙ c.requires.places)
    (subst (λ gs. AllZip IsFirst gs
    (placed_all (λ (j : JobState g.row.U.Denot). j.row.outs) (λ j. j.puts) c.args.jobs.items (set (puts_on c.args.board.outs.items) 0 (Some (put_of c.args.first))))) gots (subst (λ ps. AllZip IsFirst (gots_on c.loop-job.ins.items) ps) puts c.settle_rings.ensures.first))
