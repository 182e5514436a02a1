-- The operations for which the order of the records matters, each by its row.
use Rattle.std.specs.Prelude.{◌≡◌, ℕ, ◌+◌, ◌-◌, ◌^◌, nat_lt, nat_le, Bool, true, false, not, min, if◌then◌else◌, List, [], ◌∷◌, length, Option, None, Some, option_and_then, is_some, ℤ, pos, ◌+ℤ◌, ◌-ℤ◌}
use Rattle.std.specs.Option.{option_map}
use Rattle.ff_rec.specs.Fields.{field_at, same_bytes}
use Rattle.ff_rec.specs.Lines.{Rec}
use Rattle.ff_rec.specs.Number.{printed}
use Rattle.ff_node.specs.Behaviour.{Behaviour}
use Rattle.ff_node.specs.Sends.{Sent, add}
use Rattle.ff_node.specs.declared.class.Class.TheVariants.{Ordered}
use Rattle.ff_ops.specs.Rows.{in_range, number_in, with_number, sends_of, rejects_of}
use Rattle.ff_ops.specs.declared.ordered_op.OrderedOp.{OrderedOp}
use Rattle.ff_ops.specs.declared.ordered_op.OrderedOp.TheVariants.{Number, RunSum, Delta, Take, Skip, Uniq}

-- the state of `number` grows by 1 up to 2^63 - 1
abbrev pub one_more : ℕ → ℕ
one_more n = min (n + 1) (2 ^ 63 - 1)

-- whether field content differs from the one before, if there was one
abbrev pub differs : Option (List ℕ) → List ℕ → Bool
differs None bytes = true
differs (Some before) bytes = not (same_bytes before bytes)

-- what an operation sends for a record in its state, or none where it rejects it
abbrev pub ordered_answer : OrderedOp → Rec → Option (List Rec)
ordered_answer (Number n) r = if nat_lt (length r) 64 then Some ((printed (pos n) ∷ r) ∷ []) else None
ordered_answer (RunSum f s) r = option_map (λ n. with_number f n r ∷ []) (option_and_then (λ x. in_range (s +ℤ x)) (number_in f r))
ordered_answer (Delta f s) r = option_map (λ n. with_number f n r ∷ []) (option_and_then (λ x. in_range (x -ℤ s)) (number_in f r))
ordered_answer (Take n left) r = Some (r ∷ [])
ordered_answer (Skip n left) r = if nat_lt 0 left then Some [] else Some (r ∷ [])
ordered_answer (Uniq f before) r = option_map (λ bytes. if differs before bytes then r ∷ [] else []) (field_at f r)

-- the number of a record, and the state where it has none
abbrev pub number_or : ℤ → Option ℤ → ℤ
number_or s None = s
number_or s (Some n) = n

-- the state after a record that isn't rejected
abbrev pub after_sent : OrderedOp → Rec → OrderedOp
after_sent (Number n) r = Number (one_more n)
after_sent (RunSum f s) r = RunSum f (number_or s (option_and_then (λ x. in_range (s +ℤ x)) (number_in f r)))
after_sent (Delta f s) r = Delta f (number_or s (number_in f r))
after_sent (Take n left) r = Take n (left - 1)
after_sent (Skip n left) r = Skip n (left - 1)
after_sent (Uniq f before) r = Uniq f (field_at f r)

-- a record that is rejected leaves the state
abbrev pub ordered_next : OrderedOp → Rec → OrderedOp
ordered_next o r = if is_some (ordered_answer o r) then after_sent o r else o

-- `take` ends once its state becomes 0
abbrev pub ordered_ends : OrderedOp → Rec → Bool
ordered_ends (Take n left) r = nat_le left 1
ordered_ends o r = false

-- the opening states
abbrev pub ordered_opening : OrderedOp → OrderedOp
ordered_opening (Number n) = Number 1
ordered_opening (RunSum f s) = RunSum f (pos 0)
ordered_opening (Delta f s) = Delta f (pos 0)
ordered_opening (Take n left) = Take n n
ordered_opening (Skip n left) = Skip n n
ordered_opening (Uniq f before) = Uniq f None

abbrev pub ordered_node : Behaviour OrderedOp
ordered_node = record {
  class = λ o. Ordered;
  opening = ordered_opening;
  sends = λ o r. sends_of (ordered_answer o r);
  rejects = λ o r. rejects_of (ordered_answer o r) r;
  next = ordered_next;
  ends = ordered_ends;
  last = λ o. [];
  last_rejects = λ o. [];
}

-- the state and what is gathered, before and after a record
pub record IsStep (o : OrderedOp) (r : Rec) (s : Sent) (o' : OrderedOp) (s' : Sent) : Type 0 where
  pub state : o' ≡ ordered_next o r
  pub sends : s' ≡ add s (sends_of (ordered_answer o r)) (rejects_of (ordered_answer o r) r)
