-- The jobs that ended are those that were started, over the same rings.
use Rattle.std.proofs.Common.{◌≡◌, ◌++◌, length, map, sym, ap, ◌∙◌, subst, arith}
use Rattle.std.specs.List.{All, AllZip}
use Rattle.ff_ring.specs.Ends.{put_of, got_of, read_ring, written_ring}
use Rattle.ff_engine.specs.Jobs.{HasPorts, HasWorked}
use Rattle.ff_engine.specs.Lines.{IsSettled, IsWired, Linked}
use Rattle.ff_engine.proofs.Finished.{HasPorts-finished, Linked-finished, length-finished, rows-finished}
use Rattle.ff_engine.proofs.crew.Crew.join.Goals as goal

pub settle_jobs-requires-clause-linked : goal.settle_jobs-requires-clause-linked
settle_jobs-requires-clause-linked g c =
    let f = c.finish_all.ensures.finishes in
    let all : c.finish_all.new.jobs.items ≡ f.finished = f.behind ∙ ap (λ l. l ++ f.finished) c.self.invariant.0 in
    let each : AllZip (HasWorked g.U.Unit.does) c.args.self f.finished = subst (λ l. AllZip (HasWorked g.U.Unit.does) l f.finished) c.self.view_is f.each in
    subst (λ js. Linked (written_ring c.args.first) js (read_ring c.args.last)) (sym all)
    (Linked-finished g.U.Unit.does (written_ring c.args.first) c.args.self f.finished (read_ring c.args.last) each c.requires.linked)

pub settle_jobs-requires-clause-ports : goal.settle_jobs-requires-clause-ports
settle_jobs-requires-clause-ports g c =
    let f = c.finish_all.ensures.finishes in
    let all : c.finish_all.new.jobs.items ≡ f.finished = f.behind ∙ ap (λ l. l ++ f.finished) c.self.invariant.0 in
    subst (λ js. All (λ job. HasPorts job) js) (sym all) (HasPorts-finished g.U.Unit.does c.self.inside.running.jobs f.finished f.each)

pub settle_jobs-requires-clause-wired : goal.settle_jobs-requires-clause-wired
settle_jobs-requires-clause-wired g c =
    let f = c.finish_all.ensures.finishes in
    let all : c.finish_all.new.jobs.items ≡ f.finished = f.behind ∙ ap (λ l. l ++ f.finished) c.self.invariant.0 in
    subst (λ rows. IsWired rows (length c.self.inside.board.ins.items))
    (sym (ap (map (λ job. job.row)) all ∙ rows-finished g.U.Unit.does c.self.inside.running.jobs f.finished f.each)) c.self.invariant.4

pub settle_jobs-requires-clause-room : goal.settle_jobs-requires-clause-room
settle_jobs-requires-clause-room g c =
    let f = c.finish_all.ensures.finishes in
    let all : c.finish_all.new.jobs.items ≡ f.finished = f.behind ∙ ap (λ l. l ++ f.finished) c.self.invariant.0 in
    omega (arith, ap length all, length-finished g.U.Unit.does c.self.inside.running.jobs f.finished f.each, c.self.invariant.3)

pub returns-clause-joined : goal.returns-clause-joined
returns-clause-joined g c =
    let f = c.finish_all.ensures.finishes in
    let all : c.finish_all.new.jobs.items ≡ f.finished = f.behind ∙ ap (λ l. l ++ f.finished) c.self.invariant.0 in
    record {
      finished = f.finished;
      each = subst (λ l. AllZip (HasWorked g.U.Unit.does) l f.finished) c.self.view_is f.each;
      units_are = c.settle_jobs.ensures.units ∙ ap (map (λ j. j.unit)) all;
      settled = subst (λ js. IsSettled (put_of c.args.first) js (got_of c.args.last)) all c.settle_jobs.ensures.settled;
      work = f.work;
    }
