-- A record more was held, and some of what is held was written.
use Rattle.std.proofs.Common.{◌∙◌, refl}
use Rattle.std.proofs.lemmas.Result.{err_from_is_err_and}
use Rattle.ff_stream.proofs.Writings.{Writes-all, Writes-none, Writes-record, WritesSome-all, WritesSome-record}
use Rattle.ff_stream.proofs.write.write_records.Goals as goal

pub loop-r-init : goal.loop-r-init
loop-r-init g c = record { writes = Writes-none c.args.records c.new-held.result _ c.new-held.ensures; silent = refl }

pub loop-r-preserved : goal.loop-r-preserved
loop-r-preserved g c = record {
  writes = Writes-record c.args.records c.loop-r.records c.take_first.new.self c.in-Some.r c.loop-r.held c.print.new.self c.write_full.new.self _ _ _
      c.loop-r.invariant.writes c.in-Some.ensures c.in_ok-print.ensures.ok c.in_ok-write_full.ensures.all;
  silent = c.in_ok-write_full.ensures.counts ∙ c.loop-r.invariant.silent;
}

pub returns-in_err-write_full-clause-some : goal.returns-in_err-write_full-clause-some
returns-in_err-write_full-clause-some g c =
    let p = err_from_is_err_and c.from_residual-in_err-write_full.result c.from_residual-in_err-write_full.ensures.1 in
    rw p.1
    (WritesSome-record c.args.records c.loop-r.records c.take_first.new.self c.in-Some.r c.loop-r.held c.print.new.self _ _ _
    c.loop-r.invariant.writes c.in-Some.ensures c.in_ok-print.ensures.ok c.in_err-write_full.ensures.some)

pub returns-in_err-write-clause-some : goal.returns-in_err-write-clause-some
returns-in_err-write-clause-some g c =
    let p = err_from_is_err_and c.from_residual-in_err-write.result c.from_residual-in_err-write.ensures.1 in
    rw p.1 (WritesSome-all c.args.records c.loop-r.records c.loop-r.held _ _ _ c.loop-r.invariant.writes c.in_default.ensures.0 c.in_err-write.ensures.some)

pub returns-clause-all : goal.returns-clause-all
returns-clause-all g c =
    Writes-all c.args.records c.loop-r.records c.loop-r.held c.write.new.self _ _ _ c.loop-r.invariant.writes c.in_default.ensures.0 c.in_ok-write.ensures.all c.in_ok-write.ensures.empty
