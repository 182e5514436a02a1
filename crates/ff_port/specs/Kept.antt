-- What a queue of one thread keeps true of its fields.
use Rattle.std.specs.Prelude.{◌≡◌, ℕ, ◌<◌, ◌≤◌, List, [], ◌∷◌, ◌++◌, length}
use Rattle.ff_rec.specs.Streams.{IsOpen, IsOpenMsg}
use Rattle.ff_rec.specs.declared.msg.Msg.{Msg}
use Rattle.ff_port.specs.declared.answers.Put.{Put as PutAnswer}
use Rattle.ff_port.specs.declared.answers.Put.TheVariants.{Done, Full, NoMemory}

-- no more messages are inside than it has slots, and while neither Eos nor Abort was put there is memory for one more
pub record IsKept {T : Type 0} (got inside : List (Msg T)) (room cap : ℕ) : Type 0 where
  pub few : length inside ≤ cap
  pub some : 1 ≤ cap
  pub kept : IsOpen (got ++ inside) → length inside < room

-- a message comes behind the others, or for want of memory stays out
abbrev pub Grows : {T : Type 0} → List (Msg T) → Msg T → PutAnswer T → List (Msg T) → Type 0
Grows inside m Done inside' = inside' ≡ inside ++ m ∷ []
Grows inside m (Full back) inside' = ⊥
Grows inside m (NoMemory back) inside' = (back ≡ m) × IsOpenMsg m × (inside' ≡ inside)
