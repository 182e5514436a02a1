-- A unit that can't move: words for what it took and put.
use Rattle.std.specs.Prelude.{◌≡◌, ◌⊎◌, ◌<◌, ◌+◌, ◌==◌, if◌then◌else◌, ℕ, zero, suc, Bool, true, List, [], ◌∷◌, slice_index}
use Rattle.ff_rec.specs.Streams.{at}
use Rattle.ff_rec.specs.declared.msg.Msg.TheVariants.{Item, Mark, Pick, Eos, Abort}
use Rattle.ff_node.specs.Fits.{marks}
use Rattle.ff_node.specs.Runs.{Message}
use Rattle.ff_unit.specs.Units.{Doing, Known}

-- Eos or Abort stands among these messages
abbrev pub HasEnd : List Message → Type 0
HasEnd [] = ⊥
HasEnd (Item x ∷ ms) = HasEnd ms
HasEnd (Mark ∷ ms) = HasEnd ms
HasEnd (Pick w ∷ ms) = HasEnd ms
HasEnd (Eos ∷ ms) = Unit {0}
HasEnd (Abort ∷ ms) = Unit {0}

-- the last message, where there is one, is a Mark
abbrev pub MarkLast : List Message → Type 0
MarkLast [] = Unit {0}
MarkLast (m ∷ []) = m ≡ Mark
MarkLast (m ∷ n ∷ ms) = MarkLast (n ∷ ms)

-- the place after this one, round and round, and the place whose turn it is after so many
abbrev pub next_place : ℕ → ℕ → ℕ
next_place n w = if suc w == n then 0 else suc w

abbrev pub turn : ℕ → ℕ → ℕ
turn n zero = 0
turn n (suc k) = next_place n (turn n k)

-- how many of the first `k` turns were those of place `j`
abbrev pub turns_of : ℕ → ℕ → ℕ → ℕ
turns_of n zero j = 0
turns_of n (suc k) j = (if turn n k == j then 1 else 0) + turns_of n k j

-- it has ended, or the port that was due gave nothing
abbrev pub AtRest : {U : Type 0} → Doing U → U → Known → Known → Type 0
AtRest d u before after = (d.done u ≡ true) ⊎ d.Stalls u before after

-- nothing waits to be handed over, and each out has room
pub record IsFree (outs : ℕ) (after : Known) : Type 0 where
  pub idle : after.waiting ≡ 0
  pub rooms : (k : ℕ) → k < outs → slice_index after.rooms k ≡ 0 → ⊥

-- each in ended or gave nothing; and where each ended, the unit has ended and told it on each out
pub record Rested (ins outs : ℕ) (gots puts : List (List Message)) (after : Known) (done : Bool)
    : Type 0 where
  pub dry : (k : ℕ) → k < ins → HasEnd (at gots k) ⊎ (slice_index after.knowns k ≡ 0)
  pub ends : ((k : ℕ) → k < ins → HasEnd (at gots k))
      → (done ≡ true) × ((k : ℕ) → k < outs → HasEnd (at puts k))

-- an out has no room, which is that in turn or on which a Mark is last
pub record FullOut (n number : ℕ) (puts : List (List Message)) (after : Known) : Type 0 where
  pub k : ℕ
  pub below : k < n
  pub full : slice_index after.rooms k ≡ 0
  pub where_it_is : (k ≡ turn n number) ⊎ MarkLast (at puts k)

-- an ordered deal, round and round: it put so many Marks, and an out is full, or else it passed
-- on what came
pub record RestedDeal (n : ℕ) (gots puts : List (List Message)) (after : Known) (done : Bool)
    : Type 0 where
  pub number : ℕ
  pub dealt : (j : ℕ) → j < n → marks (at puts j) ≡ turns_of n number j
  pub state : FullOut n number puts after ⊎ Rested 1 n gots puts after done

-- an ordered merge, round and round: it got so many Marks, and awaits the place that is due
pub record AwaitsIn (n : ℕ) (gots : List (List Message)) (after : Known) : Type 0 where
  pub number : ℕ
  pub dry : slice_index after.knowns (turn n number) ≡ 0
  pub unclosed : HasEnd (at gots (turn n number)) → ⊥
  pub merged : (j : ℕ) → j < n → marks (at gots j) ≡ turns_of n number j
