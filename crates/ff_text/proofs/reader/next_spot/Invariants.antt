use Rattle.std.proofs.Common.{◌≡◌, ◌-◌, ◌≤◌, length}
use Rattle.ff_text.specs.Cutting.{ahead}
use Rattle.ff_text.proofs.reader.next_spot.Given as goal

-- what is passed over are gaps
abbrev pub invariant-loop-at : goal.invariant-loop-at
invariant-loop-at l = record {
  same : ahead l.text l.initial.at ≡ ahead l.text l.at;
  within : l.at ≤ length l.text;
}

abbrev pub decreases-loop-at : goal.decreases-loop-at
decreases-loop-at l = length l.text - l.at
