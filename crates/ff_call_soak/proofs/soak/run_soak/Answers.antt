-- The summary was written, by threads, and nothing was read.
use Rattle.ff_call_soak.proofs.Soakings.{Counts-soaks, Soaked-soaks}
use Rattle.ff_call_soak.proofs.soak.run_soak.Goals as goal

pub returns-clause-done : goal.returns-clause-done
returns-clause-done g c =
    let r = c.write_soak in
    Soaked-soaks c.args.n c.args.workers _ _ _ _ _ _ r.result r.ensures.soaks r.ensures.threads

pub returns-clause-counts : goal.returns-clause-counts
returns-clause-counts g c =
    let r = c.write_soak in
    Counts-soaks c.args.n c.args.workers _ _ _ _ _ _ r.result r.ensures.soaks
