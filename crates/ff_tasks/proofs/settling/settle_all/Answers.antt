-- The last worker of those that are left is settled.
use Rattle.std.proofs.Common.{◌≡◌, ◌∷◌, ◌++◌, [], length, map, sym, ap, ◌∙◌, subst, arith}
use Rattle.std.proofs.lemmas.List.{length-map, nil_from_length}
use Rattle.ff_tasks.specs.Jobs.{JobState}
use Rattle.ff_tasks.specs.Seats.{SeatState, links}
use Rattle.ff_tasks.proofs.Ends.{SettledBehind, SettledBehind-none, SettledBehind-more, SettledBehind-all, links-last}
use Rattle.ff_tasks.proofs.settling.settle_all.Goals as goal

pub loop-job-init : goal.loop-job-init
loop-job-init g c = record { links = c.requires; settled = SettledBehind-none c.args.seats.items c.args.jobs.items }

pub unreachable-requires : goal.unreachable-requires
unreachable-requires g c = omega (
  arith,
  c.in_default-pop.ensures.cases.0,
  c.in-Some.ensures.len,
  ap length c.loop-job.invariant.links,
  length-map c.loop-job.seats.items (λ (s : SeatState g.row.T.Denot g.row.A.Denot). s.link),
  length-map c.loop-job.jobs.items (λ (j : JobState g.row.T.Denot g.row.A.Denot g.row.H.Denot). j.link),
  c.loop-job.seats.ok.0,
  c.loop-job.jobs.ok.0,
)

pub settle_one-requires : goal.settle_one-requires
settle_one-requires g c = (links-last c.pop-in-Some.new.self.items c.in-Some-pop.seat c.pop.new.self.items c.in-Some.job
    (sym (ap links c.in-Some-pop.ensures.items) ∙ c.loop-job.invariant.links
    ∙ ap (map (λ (j : JobState g.row.T.Denot g.row.A.Denot g.row.H.Denot). j.link)) c.in-Some.ensures.items)).1

pub loop-job-preserved : goal.loop-job-preserved
loop-job-preserved g c = record {
  links = (links-last c.pop-in-Some.new.self.items c.in-Some-pop.seat c.pop.new.self.items c.in-Some.job
      (sym (ap links c.in-Some-pop.ensures.items) ∙ c.loop-job.invariant.links
      ∙ ap (map (λ (j : JobState g.row.T.Denot g.row.A.Denot g.row.H.Denot). j.link)) c.in-Some.ensures.items)).0;
  settled = SettledBehind-more c.args.seats.items c.args.jobs.items c.loop-job.seats.items c.pop-in-Some.new.self.items c.loop-job.jobs.items c.pop.new.self.items
      c.in-Some-pop.seat c.in-Some.job c.loop-job.invariant.settled c.in-Some-pop.ensures.items c.in-Some.ensures.items c.settle_one.ensures;
}

pub returns : goal.returns
returns g c =
    let none : c.loop-job.jobs.items ≡ [] = nil_from_length c.loop-job.jobs.items (omega (arith, c.in_default.ensures.cases.0, c.loop-job.jobs.ok.0)) in
    let none' : c.loop-job.seats.items ≡ [] = nil_from_length c.loop-job.seats.items (omega (
      arith,
      ap length none,
      ap length c.loop-job.invariant.links,
      length-map c.loop-job.seats.items (λ (s : SeatState g.row.T.Denot g.row.A.Denot). s.link),
      length-map c.loop-job.jobs.items (λ (j : JobState g.row.T.Denot g.row.A.Denot g.row.H.Denot). j.link),
    )) in
    SettledBehind-all c.args.seats.items c.args.jobs.items c.loop-job.seats.items
    (subst (λ js. SettledBehind c.args.seats.items c.args.jobs.items c.loop-job.seats.items js) none c.loop-job.invariant.settled) none'
