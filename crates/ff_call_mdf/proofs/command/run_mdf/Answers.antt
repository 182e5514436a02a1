-- The text was at fault, or its program was run.
use Rattle.std.proofs.Common.{inl, inr, refl}
use Rattle.ff_call.specs.GivenLaws.{IsUntouched-given}
use Rattle.ff_call_mdf.proofs.Computings.{Computed-writes, Counts-fault, Counts-writes}
use Rattle.ff_call_mdf.proofs.command.run_mdf.Goals as goal

pub returns-in-Ok-clause-done : goal.returns-in-Ok-clause-done
returns-in-Ok-clause-done g c =
    let r = c.write_results in
    inr (record {
      program = c.in-Ok.program;
      is = c.in-Ok.ensures.ok;
      done = Computed-writes c.in-Ok.program c.args.workers _ _ _ _ _ _ _ _ r.result c.in-Ok.ensures.keeps r.ensures.writes r.ensures.threads;
    })

pub returns-in-Ok-clause-counts : goal.returns-in-Ok-clause-counts
returns-in-Ok-clause-counts g c =
    let r = c.write_results in
    Counts-writes c.in-Ok.program c.args.workers _ _ _ _ _ _ _ _ r.result c.in-Ok.ensures.counts r.ensures.writes

pub returns-in-Err-clause-done : goal.returns-in-Err-clause-done
returns-in-Err-clause-done g c =
    inl (record {
      cause = c.in-Err.fault;
      is = refl;
      of_given = c.in-Err.ensures.fault;
      untouched = IsUntouched-given _ _ _ c.in-Err.ensures.keeps;
    })

pub returns-in-Err-clause-counts : goal.returns-in-Err-clause-counts
returns-in-Err-clause-counts g c = Counts-fault _ _ _ c.args.given c.in-Err.fault c.in-Err.ensures.fault c.in-Err.ensures.counts
