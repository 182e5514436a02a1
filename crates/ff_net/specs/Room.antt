-- How far the search for a rule's first place may go down.
use Rattle.std.specs.Prelude.{◌≡◌, ℕ, ◌+◌, ◌≤◌, ◌⊎◌}
use Rattle.ff_net.specs.Limits.{most_depth}
use Rattle.ff_net.specs.declared.rule.Rule.{Rule}
use Rattle.ff_net.specs.declared.rule.Rule.TheVariants.{Depth}

-- there are no more steps than a network may be deep down to a network of this depth and to all networks in it, or the search is for the
-- depth, and ends there
pub record HasRoom (rule : Rule) (steps depth : ℕ) : Type 0 where
  pub by : ((rule ≡ Depth) × (steps ≤ most_depth)) ⊎ (steps + depth ≤ most_depth)
