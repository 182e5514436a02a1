-- What a run of a part of a network gives.
use Rattle.std.specs.Prelude.{◌≡◌, ℕ, suc, List, [], Option, None, Some}
use Rattle.ff_rec.specs.Lines.{Rec}
use Rattle.ff_rec.specs.Weights.{Same}
use Rattle.ff_node.specs.Behaviour.{Behaviour}
use Rattle.ff_node.specs.Sends.{Sent, add}
use Rattle.ff_net.specs.declared.net.Test.{Test}
use Rattle.ff_net.specs.Levels.{IsOver, results, over_levels}
use Rattle.ff_net.specs.Meaning.{mean, mean_through, mean_rejected, mean_rejected_through, Fine, FineThrough}
use Rattle.ff_net.specs.Tree.{Tree, Trees}

-- all that is meant was sent, and what is due as rejects was added to what was gathered, each record as often
pub record Gathers (Within : Type 0) (meant due : List Rec) (before after : Sent) (ys : List Rec) : Type 0 where
  pub fine : Within
  pub sent : ys ≡ meant
  pub losses : List Rec
  pub same : Same due losses
  pub added : after ≡ add before [] losses

-- where no wrap is over its limit that was gathered, and else nothing
abbrev pub HasRun : Type 0 → List Rec → List Rec → Sent → Sent → Option (List Rec) → Type 0
HasRun Within meant due before after None = Within → ⊥
HasRun Within meant due before after (Some ys) = Gathers Within meant due before after ys

-- a network was run on these records
abbrev pub HasRunNet : {N : Type 0} → Behaviour N → ℕ → Tree N → List Rec → Sent → Sent → Option (List Rec) → Type 0
HasRunNet b m t xs before after answer = HasRun (Fine b m t xs) (mean b m t xs) (mean_rejected b m t xs) before after answer

-- the parts of a pipe were
abbrev pub HasRunParts : {N : Type 0} → Behaviour N → ℕ → Trees N → List Rec → Sent → Sent → Option (List Rec) → Type 0
HasRunParts b m ts xs before after answer = HasRun (FineThrough b m ts xs) (mean_through b m ts xs) (mean_rejected_through b m ts xs) before after answer

-- a wrap was, whose worker sends `send xs` for a list and rejects `reject xs`
abbrev pub HasRunRounds : (List Rec → List Rec) → (List Rec → List Rec) → Test → ℕ → List Rec → Sent → Sent → Option (List Rec) → Type 0
HasRunRounds send reject p m xs before after answer =
    HasRun (¬ IsOver send p m xs) (results send p m xs) (over_levels reject send p (suc m) xs) before after answer
