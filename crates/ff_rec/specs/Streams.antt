-- Lists of messages on a channel.
use Rattle.std.specs.Prelude.{◌≡◌, ℕ, List, [], ◌∷◌, ◌++◌, map, slice_index_or, slice_set}
use Rattle.std.specs.List.{AllByRecursion}
use Rattle.ff_rec.specs.declared.msg.Msg.{Msg}
use Rattle.ff_rec.specs.declared.msg.Msg.TheVariants.{Item, Mark, Pick, Eos, Abort}

-- a message behind which others may come
abbrev pub IsOpenMsg : {T : Type 0} → Msg T → Type 0
IsOpenMsg (Item x) = Unit {0}
IsOpenMsg Mark = Unit {0}
IsOpenMsg (Pick w) = Unit {0}
IsOpenMsg Eos = ⊥
IsOpenMsg Abort = ⊥

-- neither Eos nor Abort stands among these messages
abbrev pub IsOpen : {T : Type 0} → List (Msg T) → Type 0
IsOpen ms = AllByRecursion IsOpenMsg ms

-- what messages carry, in their order
abbrev pub items : {T : Type 0} → List (Msg T) → List T
items [] = []
items (Item x ∷ ms) = x ∷ items ms
items (Mark ∷ ms) = items ms
items (Pick w ∷ ms) = items ms
items (Eos ∷ ms) = items ms
items (Abort ∷ ms) = items ms

-- the messages of port `k`
abbrev pub at : {T : Type 0} → List (List (Msg T)) → ℕ → List (Msg T)
at lists k = slice_index_or lists k []

-- the lists of all ports with one message more at port `k`
abbrev pub added : {T : Type 0} → List (List (Msg T)) → ℕ → Msg T → List (List (Msg T))
added lists k m = slice_set lists k (at lists k ++ m ∷ [])

-- each piece as a message
abbrev pub carried : {T : Type 0} → List T → List (Msg T)
carried xs = map (λ x. Item x) xs

-- the messages but for every Abort
abbrev pub unaborted : {T : Type 0} → List (Msg T) → List (Msg T)
unaborted [] = []
unaborted (Item x ∷ ms) = Item x ∷ unaborted ms
unaborted (Mark ∷ ms) = Mark ∷ unaborted ms
unaborted (Pick w ∷ ms) = Pick w ∷ unaborted ms
unaborted (Eos ∷ ms) = Eos ∷ unaborted ms
unaborted (Abort ∷ ms) = unaborted ms

-- a whole list: these messages and the one Eos behind them
abbrev pub closed : {T : Type 0} → List (Msg T) → List (Msg T)
closed ms = ms ++ Eos ∷ []

-- these messages, without an Abort, go on to the whole list of `ms`: some more come, and none behind an Eos
pub record GoesOn {T : Type 0} (so_far ms : List (Msg T)) : Type 0 where
  pub inner : IsOpen ms
  pub more : List (Msg T)
  pub is : closed ms ≡ so_far ++ more
