-- Counts of faults: what happened outside shows in no other way.
use Rattle.std.specs.Prelude.{ℕ, ◌≤◌, Result, Ok, Err, OnErr}
pub use Rattle.ff_rec.specs.Counts.{more, Rose}

-- the count after a call with this answer: one more where it failed
abbrev pub count_after : {A E : Type 0} → ℕ → Result A E → ℕ
count_after n (Ok a) = n
count_after n (Err e) = more n

-- the count never falls, and a fault is answered only where it rose
pub record HasCause {A E : Type 0} (before now : ℕ) (answer : Result A E) : Type 0 where
  pub stays : before ≤ now
  pub rose : OnErr answer (Rose before now)
