use Rattle.std.proofs.Common.{◌≡◌, ◌∷◌, ◌++◌, ◌+◌, ◌*◌, length, List}
use Rattle.ff_net.specs.Tree.{trees_of}
use Rattle.ff_text.specs.Printing.{tokens_of}
use Rattle.ff_text.specs.Seen.{context_of}
use Rattle.ff_text.specs.Wants.{Want, Network, Parts, walk}
use Rattle.ff_text.proofs.Parts.{ArePartsSoFar, SpellsSoFar, left}
use Rattle.ff_text.proofs.+networks.Given as goal

abbrev pub decreases-network::network : goal.decreases-network::network
decreases-network::network l = 5 * l.room

abbrev pub decreases-network::marked : goal.decreases-network::marked
decreases-network::marked l = 5 * l.room + 1

abbrev pub decreases-form_body::parts : goal.decreases-form_body::parts
decreases-form_body::parts l = 5 * l.room + 1

abbrev pub decreases-network::side : goal.decreases-network::side
decreases-network::side l = 5 * l.room + 2

abbrev pub decreases-form_body::farm : goal.decreases-form_body::farm
decreases-form_body::farm l = 5 * l.room + 2

abbrev pub decreases-form_body::a2a : goal.decreases-form_body::a2a
decreases-form_body::a2a l = 5 * l.room + 3

abbrev pub decreases-form_body::formed : goal.decreases-form_body::formed
decreases-form_body::formed l = 5 * l.room + 4

-- what was taken are the first parts; where no other follows, all
abbrev pub invariant-form_body::parts-loop-more : goal.invariant-form_body::parts-loop-more
invariant-form_body::parts-loop-more l = record {
  eaten : (ws : List Want) → walk (context_of l.context) l.initial.reader (Network l.room ∷ Parts l.room ∷ ws) ≡ walk (context_of l.context) l.reader (left l.more l.room ++ ws);
  nets : ArePartsSoFar l.more (trees_of l.parts.items) l.room;
  text : SpellsSoFar (context_of l.context).names l.more (trees_of l.parts.items) (tokens_of l.initial.reader) (tokens_of l.reader);
}

abbrev pub decreases-form_body::parts-loop-more : goal.decreases-form_body::parts-loop-more
decreases-form_body::parts-loop-more l = length (tokens_of l.reader)
