-- What a run met of its input and its output.
use Rattle.std.specs.Prelude.{ℕ, Bool, List, Option}

-- the bytes that were left to read before and after it, whether its last read told the end, the counts of the input's
-- faults, and the bytes that the output took before and after it
pub record Streams : Type 0 where
  pub left : Option (List ℕ)
  pub left_now : Option (List ℕ)
  pub ended : Bool
  pub faults : ℕ
  pub faults_now : ℕ
  pub taken : Option (List ℕ)
  pub taken_now : Option (List ℕ)

-- by what a source and a sink tell of themselves before and after it
abbrev pub streams : {I O : Type 0} → (I → Option (List ℕ)) → (I → Bool) → (I → ℕ) → (O → Option (List ℕ)) → I → I → O → O → Streams
streams left ended faults taken source source_now sink sink_now = record {
  left = left source;
  left_now = left source_now;
  ended = ended source_now;
  faults = faults source;
  faults_now = faults source_now;
  taken = taken sink;
  taken_now = taken sink_now;
}
