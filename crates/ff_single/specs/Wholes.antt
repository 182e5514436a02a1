-- A network of which nothing is sent before the whole input is read.
use Rattle.std.specs.Prelude.{◌≡◌, ℕ, List, []}
use Rattle.ff_rec.specs.Lines.{Rec}
use Rattle.ff_net.specs.Meaning.{Answers, Fine, mean_rejected, mean_rejected_count}
use Rattle.ff_net.specs.Kept.{AreKept}
use Rattle.ff_mean.specs.declared.outcome.Outcome.{Outcome}
use Rattle.ff_mean.specs.declared.outcome.Outcome.TheVariants.{Done, Over}
use Rattle.ff_stream.specs.Jobs.{Job}

-- it is the network of the job, these are the records that it was given, and nothing was written
pub record Gathers {N : Type 0} (own : Job N) (records : List Rec) (j : Job N) (xs : List Rec) (front : List ℕ) : Type 0 where
  pub runs : j ≡ own
  pub given : records ≡ xs
  pub nothing : front ≡ []

-- an answer of the network for these records, and what it rejects
pub record IsSolved {N : Type 0} (j : Job N) (xs ys : List Rec) (number : ℕ) (zs : List Rec) : Type 0 where
  pub answers : Answers j.does j.tasks j.net xs ys
  pub rejected : number ≡ mean_rejected_count j.does j.tasks j.net xs
  pub kept : AreKept j.keep (mean_rejected j.does j.tasks j.net xs) zs

-- what is worked out for these records: an answer, or that a wrap is over its limit
abbrev pub Solved : {N : Type 0} → Job N → List Rec → Outcome → Type 0
Solved j xs (Done sent rejected kept) = IsSolved j xs sent rejected kept
Solved j xs Over = Fine j.does j.tasks j.net xs → ⊥
