-- The edges of a party, and what its ports leave alone.
use Rattle.std.specs.Prelude.{ℕ, ◌==◌, if◌then◌else◌, Bool, false, ◌||◌, List, [], ◌∷◌, map, length, slice_index_or}
use Rattle.std.specs.Borrow.{GName}
use Rattle.ff_rec.specs.Lines.{Rec}
use Rattle.ff_node.specs.Runs.{Message}
use Rattle.ff_port.specs.Queues.{Queue, put_of, room_of, empty_queue}
use Rattle.ff_unit.specs.Units.{Known}
use Rattle.ff_steps.specs.Wiring.{Row}

-- the edge with this number
abbrev pub edge_at : List (Queue Rec) → ℕ → Queue Rec
edge_at edges e = slice_index_or edges e (empty_queue 0)

-- the edges with these numbers
abbrev pub ends_at : List (Queue Rec) → List ℕ → List (Queue Rec)
ends_at edges es = map (λ e. edge_at edges e) es

-- what was got from these edges, and what was put on them
abbrev pub gots_at : List (Queue Rec) → List ℕ → List (List Message)
gots_at edges es = map (λ q. q.got) (ends_at edges es)

abbrev pub puts_at : List (Queue Rec) → List ℕ → List (List Message)
puts_at edges es = map (λ q. put_of q) (ends_at edges es)

-- how many messages are inside, and how much room is left
abbrev pub knowns_at : List (Queue Rec) → List ℕ → List ℕ
knowns_at edges es = map (λ q. length q.inside) (ends_at edges es)

abbrev pub rooms_at : List (Queue Rec) → List ℕ → List ℕ
rooms_at edges es = map (λ q. room_of q) (ends_at edges es)

-- what a party knows of its edges; nothing waits to be handed over
abbrev pub known_over : List (Queue Rec) → Row → Known
known_over edges row = record { knowns = knowns_at edges row.ins; rooms = rooms_at edges row.outs; waiting = 0 }

-- whether this number is one of these
abbrev pub is_among : ℕ → List ℕ → Bool
is_among e [] = false
is_among e (k ∷ ks) = (e == k) || is_among e ks

-- of some edges: how many there are, how many messages fit in each, what was got from each that isn't read, and what was put
-- on each that isn't written
pub record Rest : Type 0 where
  pub number : ℕ
  pub caps : ℕ → ℕ
  pub got : ℕ → List Message
  pub put : ℕ → List Message

abbrev pub rest_of : List (Queue Rec) → List ℕ → List ℕ → Rest
rest_of edges ins outs = record {
  number = length edges;
  caps = λ e. (edge_at edges e).cap;
  got = λ e. if is_among e ins then [] else (edge_at edges e).got;
  put = λ e. if is_among e outs then [] else put_of (edge_at edges e);
}

-- what the ports are paired with: a loan of the edges, the row, and the rest
pub record RowLink : Type 0 where
  pub name : GName
  pub ins : List ℕ
  pub outs : List ℕ
  pub rest : Rest

abbrev pub link_of : GName → List (Queue Rec) → List ℕ → List ℕ → RowLink
link_of name edges ins outs = record { name = name; ins = ins; outs = outs; rest = rest_of edges ins outs }
