-- What a node's calls gather where an answer is decided or not.
use Rattle.std.specs.Prelude.{◌≡◌, ℕ, ◌-◌, ◌≤◌, List, [], length, slice_index_or, Option, Some}
use Rattle.ff_rec.specs.Fields.{field_at}
use Rattle.ff_rec.specs.Lines.{Rec}
use Rattle.ff_node.specs.Sends.{Sent, add}
use Rattle.ff_ops.specs.Rows.{sends_of, rejects_of}

-- after the sends of an answer, or the record's reject
abbrev pub answered : Sent → Option (List Rec) → Rec → Sent
answered sent answer r = add sent (sends_of answer) (rejects_of answer r)

-- field `f` is there
pub record IsThere (f : ℕ) (r : Rec) : Type 0 where
  pub low : 1 ≤ f
  pub high : f ≤ length r
  pub content : field_at f r ≡ Some (slice_index_or r (f - 1) [])
