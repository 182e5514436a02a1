-- What a run of a network on one thread answers, and the pipeline of nodes that a network without feedback is.
use Rattle.std.specs.Prelude.{◌≡◌, ℕ, Bool, false, List}
use Rattle.ff_rec.specs.Lines.{Rec}
use Rattle.ff_node.specs.Behaviour.{Behaviour, pipeline, pipeline_rejected}
use Rattle.ff_net.specs.Forms.{has_wrap}
pub use Rattle.ff_net.specs.Kept.{AreKept}
use Rattle.ff_net.specs.Nodes.{nodes_in}
use Rattle.ff_net.specs.Tree.{Tree}
use Rattle.ff_net.specs.Meaning.{mean, Fine, mean_rejected, mean_rejected_count}
use Rattle.ff_mean.specs.declared.outcome.Outcome.{Outcome}
use Rattle.ff_mean.specs.declared.outcome.Outcome.TheVariants.{Done, Over}

-- no wrap is over its limit, and all that the network means was gathered
pub record IsMeant {N : Type 0} (b : Behaviour N) (m : ℕ) (keep : Bool) (t : Tree N) (xs ys : List Rec) (number : ℕ) (zs : List Rec) : Type 0 where
  pub fine : Fine b m t xs
  pub sent : ys ≡ mean b m t xs
  pub rejected : number ≡ mean_rejected_count b m t xs
  pub kept : AreKept keep (mean_rejected b m t xs) zs

-- what a run answers: all that the network means, or that a wrap is over its limit
abbrev pub Answered : {N : Type 0} → Behaviour N → ℕ → Bool → Tree N → List Rec → Outcome → Type 0
Answered b m keep t xs (Done sent rejected kept) = IsMeant b m keep t xs sent rejected kept
Answered b m keep t xs Over = Fine b m t xs → ⊥

-- a network means its nodes one behind another, and is never over a limit
pub record IsPipeline {N : Type 0} (b : Behaviour N) (t : Tree N) : Type 0 where
  pub mean : (m : ℕ) (xs : List Rec) → mean b m t xs ≡ pipeline b (nodes_in t) xs
  pub rejected : (m : ℕ) (xs : List Rec) → mean_rejected b m t xs ≡ pipeline_rejected b (nodes_in t) xs
  pub fine : (m : ℕ) (xs : List Rec) → Fine b m t xs

-- every network without feedback does
abbrev pub PipelinesWithoutFeedback : {N : Type 0} → Behaviour N → Type 0
PipelinesWithoutFeedback {N} b = (t : Tree N) → has_wrap t ≡ false → IsPipeline b t
