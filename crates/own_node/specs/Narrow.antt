-- What the node does that lets narrow records through.
use Rattle.std.specs.Prelude.{nat_lt, false, if◌then◌else◌, length, [], ◌∷◌}
use Rattle.ff_node.specs.Behaviour.{Behaviour}
use Rattle.ff_node.specs.declared.class.Class.TheVariants.{Plain}
use Rattle.own_node.specs.declared.narrow.Narrow.{Narrow}

-- it sends a record of at most so many fields, and rejects any other; it has no state
abbrev pub narrow_node : Behaviour Narrow
narrow_node = record {
  class = λ s. Plain;
  opening = λ s. s;
  sends = λ s x. if nat_lt s.most (length x) then [] else x ∷ [];
  rejects = λ s x. if nat_lt s.most (length x) then x ∷ [] else [];
  next = λ s x. s;
  ends = λ s x. false;
  last = λ s. [];
  last_rejects = λ s. [];
}
