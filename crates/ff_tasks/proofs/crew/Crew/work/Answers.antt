-- The master was opened over these seats, and served them until it was idle.
use Rattle.std.proofs.Common.{◌≡◌, [], length, sym, ap, subst, ◌∙◌, arith}
use Rattle.std.proofs.lemmas.List.{length-replicate}
use Rattle.ff_loop.specs.Masters.{MasterState}
use Rattle.ff_tasks.specs.Serving.{WorksOff}
use Rattle.ff_tasks.proofs.Serves.{WorksOff-idle, IsManned-stay}
use Rattle.ff_tasks.proofs.crew.Crew.work.Goals as goal

pub serve-requires : goal.serve-requires
serve-requires g c =
    let many : length c.args.self.now.seats.items ≡ c.len.result = omega (arith, c.len.ensures, c.args.self.now.seats.ok.0) in record {
      kept = c.in_ok-master.ensures.kept;
      count = many
          ∙ sym (ap (λ (m : MasterState g.row.T.Denot g.row.A.Denot g.row.S.Denot). length m.held) c.in_ok-master.ensures.opened ∙ length-replicate c.len.result []);
      few = c.requires.manned.few;
      untold = c.requires.manned.untold;
    }

pub returns-in_err-serve-clause-manned : goal.returns-in_err-serve-clause-manned
returns-in_err-serve-clause-manned g c =
    IsManned-stay c.args.self.now.running.jobs c.args.self.now.seats.items c.serve.new.seats.items c.requires.manned c.in_err-serve.ensures.stay

pub returns-clause-manned : goal.returns-clause-manned
returns-clause-manned g c =
    IsManned-stay c.args.self.now.running.jobs c.args.self.now.seats.items c.serve.new.seats.items c.requires.manned c.in_ok-serve.ensures.stay

pub returns-clause-works : goal.returns-clause-works
returns-clause-works g c =
    let many : length c.args.self.now.seats.items ≡ c.len.result = omega (arith, c.len.ensures, c.args.self.now.seats.ok.0) in
    subst (λ s. WorksOff g.S.Scheduler.does c.args.scheduler s c.args.self.now.seats.items c.serve.new.seats.items) (sym c.take.ensures)
    (WorksOff-idle g.S.Scheduler.does c.args.scheduler c.len.result c.in_ok-master.master c.serve.new.master c.args.self.now.seats.items c.serve.new.seats.items
    c.in_ok-master.ensures.opened many c.in_ok-serve.ensures.serves c.in_ok-serve.ensures.done c.in_ok-serve.ensures.idle)
