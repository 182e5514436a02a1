use Rattle.std.proofs.Common.{◌≡◌, ◌+◌, ◌<◌, ◌≤◌, ◌++◌, Some, length, map, flat_map, set, vec_len, vec_capacity}
use Rattle.std.specs.List.{All}
use Rattle.std.specs.Vec.Iter.{into_iter_items, into_iter_len}
use Rattle.ff_ring.specs.Ends.{got_of, put_of, read_ring, written_ring}
use Rattle.ff_engine.specs.Boards.{gots_on, puts_on, reads_on, writes_on}
use Rattle.ff_engine.specs.Slots.{placed_all}
use Rattle.ff_engine.proofs.settling.settle_jobs.Given as goal

-- the ends of the jobs that are left decide the rest
abbrev pub invariant-loop-job : goal.invariant-loop-job
invariant-loop-job g l = record {
  reads : placed_all (λ job. job.row.ins) (λ job. job.reads) (into_iter_items l.job-iterator) (reads_on l.ins.items)
      ≡ placed_all (λ job. job.row.ins) (λ job. job.reads) l.fn.jobs.items (set (reads_on l.fn.board.ins.items) 1 (Some (read_ring l.fn.last)));
  gots : placed_all (λ job. job.row.ins) (λ job. job.gots) (into_iter_items l.job-iterator) (gots_on l.ins.items)
      ≡ placed_all (λ job. job.row.ins) (λ job. job.gots) l.fn.jobs.items (set (gots_on l.fn.board.ins.items) 1 (Some (got_of l.fn.last)));
  writes : placed_all (λ job. job.row.outs) (λ job. job.writes) (into_iter_items l.job-iterator) (writes_on l.outs.items)
      ≡ placed_all (λ job. job.row.outs) (λ job. job.writes) l.fn.jobs.items (set (writes_on l.fn.board.outs.items) 0 (Some (written_ring l.fn.first)));
  puts : placed_all (λ job. job.row.outs) (λ job. job.puts) (into_iter_items l.job-iterator) (puts_on l.outs.items)
      ≡ placed_all (λ job. job.row.outs) (λ job. job.puts) l.fn.jobs.items (set (puts_on l.fn.board.outs.items) 0 (Some (put_of l.fn.first)));
  many_ins : length l.ins.items ≡ length l.fn.board.ins.items;
  many_outs : length l.outs.items ≡ length l.fn.board.ins.items;
  within_ins : All (λ e. e < length l.fn.board.ins.items) (flat_map (λ job. job.row.ins) (into_iter_items l.job-iterator));
  within_outs : All (λ e. e < length l.fn.board.ins.items) (flat_map (λ job. job.row.outs) (into_iter_items l.job-iterator));
  units : l.units.items ++ map (λ job. job.unit) (into_iter_items l.job-iterator) ≡ map (λ job. job.unit) l.fn.jobs.items;
  room : vec_len l.units + into_iter_len l.job-iterator ≤ vec_capacity l.units;
}
