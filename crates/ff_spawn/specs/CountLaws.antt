-- Laws of the counts, for callers that start or finish several jobs.
use Rattle.std.specs.Prelude.{◌≡◌, ℕ, ◌+◌, List, [], ◌∷◌, length}
use Rattle.std.specs.List.{sum_by}
use Rattle.std.proofs.Common.{arith}
use Rattle.std.proofs.lemmas.List.Sums.{sum_by-cons}
use Rattle.ff_spawn.specs.Counts.{more, more_by, count_more, worked_after, RoseBy}

-- a count of starts rose by the number of the jobs
pub RoseBy-count_more : {J : Type 0} (n : ℕ) (jobs : List J) → RoseBy (length jobs) n (count_more n jobs)
RoseBy-count_more n [] = omega arith
RoseBy-count_more n (job ∷ jobs) = omega (arith, RoseBy-count_more (more n) jobs)

-- the count of work rose by what the jobs handled, all together
pub RoseBy-worked_after : {J : Type 0} (amount : J → ℕ) (n : ℕ) (jobs : List J) → RoseBy (sum_by amount jobs) n (worked_after amount n jobs)
RoseBy-worked_after amount n [] = omega arith
RoseBy-worked_after amount n (job ∷ jobs) =
    let rest : RoseBy (sum_by amount jobs) (more_by (amount job) n) (worked_after amount n (job ∷ jobs)) = RoseBy-worked_after amount (more_by (amount job) n) jobs in
    let all : sum_by amount (job ∷ jobs) ≡ amount job + sum_by amount jobs = sum_by-cons amount job jobs in
    omega arith

-- for the goals of callers
pub ruleset count_laws = (RoseBy-count_more, RoseBy-worked_after)
