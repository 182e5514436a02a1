-- The operations that work on a number in a field, each by its rule.
use Rattle.std.specs.Prelude.{ℕ, ◌/◌, Bool, false, if◌then◌else◌, List, [], ◌∷◌, Option, None, Some, option_and_then, ℤ, pos, negsuc, neg_ℤ, ◌+ℤ◌, ◌-ℤ◌, ◌*ℤ◌, int_div, int_rem, int_le, ◌&&◌}
use Rattle.std.specs.Option.{option_map}
use Rattle.ff_rec.specs.Cmp.{compares}
use Rattle.ff_rec.specs.Lines.{Rec}
use Rattle.ff_node.specs.Behaviour.{Behaviour}
use Rattle.ff_node.specs.declared.class.Class.TheVariants.{Plain}
use Rattle.ff_ops.specs.Rows.{in_range, number_in, with_number, sends_of, rejects_of}
use Rattle.ff_ops.specs.declared.number_op.NumberOp.{NumberOp}
use Rattle.ff_ops.specs.declared.number_op.NumberRule.{NumberRule}
use Rattle.ff_ops.specs.declared.number_op.NumberRule.TheVariants as rule
use Rattle.ff_ops.specs.declared.number_op.answer.Answer.{Answer}
use Rattle.ff_ops.specs.declared.number_op.answer.Answer.TheVariants.{Nothing, Same, Becomes, Halves}

-- nothing may be divided by 0
abbrev pub is_zero : ℤ → Bool
is_zero k = int_le k (pos 0) && int_le (pos 0) k

-- the quotient towards zero
abbrev pub quotient : ℤ → ℤ → Option ℤ
quotient k x = if is_zero k then None else in_range (int_div x k)

-- `x` less `k` times that quotient
abbrev pub remainder : ℤ → ℤ → Option ℤ
remainder k x = if is_zero k then None else in_range (int_rem x k)

-- half of a number, rounded down
abbrev pub half : ℤ → ℤ
half (pos n) = pos (n / 2)
half (negsuc n) = negsuc (n / 2)

-- a number takes the place of the one in the field, where there is one
abbrev pub becomes : Option ℤ → Option Answer
becomes n = option_map (λ n. Becomes n) n

-- a record is sent where a test passes
abbrev pub same_if : Bool → Answer
same_if passes = if passes then Same else Nothing

-- what becomes of a record with the number `x` in the field, or none where it is rejected
abbrev pub answer_for : NumberRule → Rec → ℤ → Option Answer
answer_for (rule.Add k) r x = becomes (in_range (x +ℤ k))
answer_for (rule.Sub k) r x = becomes (in_range (x -ℤ k))
answer_for (rule.Mul k) r x = becomes (in_range (x *ℤ k))
answer_for (rule.Div k) r x = becomes (quotient k x)
answer_for (rule.Rem k) r x = becomes (remainder k x)
answer_for rule.Neg r x = becomes (in_range (neg_ℤ x))
answer_for (rule.If cmp k) r x = Some (same_if (compares cmp x k))
answer_for rule.Halve r x = Some (Halves (half x) (x -ℤ half x))
answer_for (rule.Plus g) r x = becomes (option_and_then (λ y. in_range (x +ℤ y)) (number_in g r))

-- what becomes of a record, or none where it is rejected
abbrev pub decided : NumberOp → Rec → Option Answer
decided o r = option_and_then (answer_for o.rule r) (number_in o.field r)

-- what is sent by an answer for the number in field `f`
abbrev pub sent_by : Answer → ℕ → Rec → List Rec
sent_by Nothing f r = []
sent_by Same f r = r ∷ []
sent_by (Becomes n) f r = with_number f n r ∷ []
sent_by (Halves half rest) f r = with_number f half r ∷ with_number f rest r ∷ []

-- what is sent for a record where an answer was decided
abbrev pub sent_for : ℕ → Rec → Option Answer → Option (List Rec)
sent_for f r answer = option_map (λ a. sent_by a f r) answer

-- what an operation sends for a record, or none where it rejects it
abbrev pub number_answer : NumberOp → Rec → Option (List Rec)
number_answer o r = sent_for o.field r (decided o r)

-- such an operation as a node: it has no state
abbrev pub number_node : Behaviour NumberOp
number_node = record {
  class = λ o. Plain;
  opening = λ o. o;
  sends = λ o r. sends_of (number_answer o r);
  rejects = λ o r. rejects_of (number_answer o r) r;
  next = λ o r. o;
  ends = λ o r. false;
  last = λ o. [];
  last_rejects = λ o. [];
}
