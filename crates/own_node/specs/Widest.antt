-- What the node does that tells how wide the widest record is.
use Rattle.std.specs.Prelude.{ℕ, max, false, length, [], ◌∷◌, pos}
use Rattle.ff_rec.specs.Number.{printed}
use Rattle.ff_node.specs.Behaviour.{Behaviour}
use Rattle.ff_node.specs.declared.class.Class.TheVariants.{Fold}

-- its state is the most fields of a record so far; at the end it sends that as a record of one field
abbrev pub widest_node : Behaviour ℕ
widest_node = record {
  class = λ s. Fold;
  opening = λ s. 0;
  sends = λ s x. [];
  rejects = λ s x. [];
  next = λ s x. max s (length x);
  ends = λ s x. false;
  last = λ s. (printed (pos s) ∷ []) ∷ [];
  last_rejects = λ s. [];
}
