-- What a node of the network does: what the node or the operation that it is does.
use Rattle.std.specs.Prelude.{Bool, List}
use Rattle.ff_rec.specs.Lines.{Rec}
use Rattle.ff_node.specs.Behaviour.{Behaviour}
use Rattle.ff_node.specs.declared.class.Class.{Class}
use Rattle.ff_ops.specs.Operation.{op_node}
use Rattle.own_node.specs.Narrow.{narrow_node}
use Rattle.own_node.specs.Widest.{widest_node}
use Rattle.own_node.specs.declared.own.Own.{Own}
use Rattle.own_node.specs.declared.own.Own.TheVariants.{Limit, Count, Stock}

-- its class
abbrev pub own_class : Own → Class
own_class (Limit s) = narrow_node.class s
own_class (Count s) = widest_node.class s
own_class (Stock s) = op_node.class s

-- its state before the first record, and after a record
abbrev pub own_opening : Own → Own
own_opening (Limit s) = Limit (narrow_node.opening s)
own_opening (Count s) = Count (widest_node.opening s)
own_opening (Stock s) = Stock (op_node.opening s)

abbrev pub own_next : Own → Rec → Own
own_next (Limit s) r = Limit (narrow_node.next s r)
own_next (Count s) r = Count (widest_node.next s r)
own_next (Stock s) r = Stock (op_node.next s r)

-- what it sends and rejects for a record, and whether it ends behind it
abbrev pub own_sends : Own → Rec → List Rec
own_sends (Limit s) r = narrow_node.sends s r
own_sends (Count s) r = widest_node.sends s r
own_sends (Stock s) r = op_node.sends s r

abbrev pub own_rejects : Own → Rec → List Rec
own_rejects (Limit s) r = narrow_node.rejects s r
own_rejects (Count s) r = widest_node.rejects s r
own_rejects (Stock s) r = op_node.rejects s r

abbrev pub own_ends : Own → Rec → Bool
own_ends (Limit s) r = narrow_node.ends s r
own_ends (Count s) r = widest_node.ends s r
own_ends (Stock s) r = op_node.ends s r

-- what it sends and rejects at the end
abbrev pub own_last : Own → List Rec
own_last (Limit s) = narrow_node.last s
own_last (Count s) = widest_node.last s
own_last (Stock s) = op_node.last s

abbrev pub own_last_rejects : Own → List Rec
own_last_rejects (Limit s) = narrow_node.last_rejects s
own_last_rejects (Count s) = widest_node.last_rejects s
own_last_rejects (Stock s) = op_node.last_rejects s

-- all of this together
abbrev pub own_node : Behaviour Own
own_node = record {
  class = own_class;
  opening = own_opening;
  sends = own_sends;
  rejects = own_rejects;
  next = own_next;
  ends = own_ends;
  last = own_last;
  last_rejects = own_last_rejects;
}
