-- What ties the ports of a deal to its state. `g` is what it took, and `ps` what it put, each message with its out.
use Rattle.std.specs.Prelude.{◌≡◌, ◌⊎◌, ◌+◌, ◌<◌, ◌≤◌, ℕ, Bool, true, false, List, [], ◌∷◌, ◌++◌, length, None, IsSome}
use Rattle.std.specs.Option.{option_to_list}
use Rattle.ff_rec.specs.Lines.{Rec}
use Rattle.ff_rec.specs.Streams.{IsOpen, items, closed}
use Rattle.ff_rec.specs.declared.msg.Msg.TheVariants.{Eos as EosMsg, Abort as AbortMsg}
use Rattle.ff_node.specs.Runs.{Message}
use Rattle.ff_port.specs.declared.answers.End.{End}
use Rattle.ff_port.specs.declared.answers.End.TheVariants.{Eos, Abort, Memory}
use Rattle.ff_unit.specs.Deals.{DealState, deal_outs, on_outs}
use Rattle.ff_unit.specs.Units.{HasAbort}
use Rattle.ff_unit.specs.DealPairLaws.{Pair}
use Rattle.ff_unit.specs.DealPickLaws.{IsOnDemand, IsPicked}
use Rattle.ff_unit.specs.DealRowLaws.{ArePut}
use Rattle.ff_unit.specs.DealSentLaws.{sent}
use Rattle.ff_unit.specs.DealTurnLaws.{IsTurn}

-- `m` is told on all outs behind `front`: on the first of them it was put, and for the others it is held
pub record IsTelling (outs : ℕ) (m : Message) (front ps held : List Pair) : Type 0 where
  pub told : ℕ
  pub left : ℕ
  pub all : told + left ≡ outs
  pub were : ps ≡ front ++ on_outs 0 told m
  pub are : held ≡ on_outs told left m

-- the in gives: each record was dealt, but for one that is free
pub record TiedLive (u : DealState) (g : List Message) (ps : List Pair) : Type 0 where
  pub inner : IsOpen g
  pub picks : List ℕ
  pub xs : List Rec
  pub picked : IsPicked u.way u.places 0 picks xs
  pub turn : IsTurn u.way u.places (length xs) u.turn
  pub items_are : items g ≡ xs ++ option_to_list u.free
  pub sends : ps ++ u.held ≡ sent u.way u.places picks xs
  pub alone : IsSome u.free → (u.held ≡ []) × IsOnDemand u.way

-- the in has ended: all its records were dealt, and Eos is told
pub record TiedShut (u : DealState) (g : List Message) (ps : List Pair) : Type 0 where
  pub ms : List Message
  pub inner : IsOpen ms
  pub is : g ≡ closed ms
  pub picks : List ℕ
  pub picked : IsPicked u.way u.places 0 picks (items ms)
  pub none : u.free ≡ None
  pub telling : IsTelling (deal_outs u.way u.places) EosMsg (sent u.way u.places picks (items ms)) ps u.held

-- the stream was cut off: Abort is told behind a front of what would be sent for a front of the records
pub record TiedCut (u : DealState) (g : List Message) (ps : List Pair) : Type 0 where
  pub picks : List ℕ
  pub xs : List Rec
  pub more : List Rec
  pub picked : IsPicked u.way u.places 0 picks xs
  pub items_are : items g ≡ xs ++ more
  pub none : u.free ≡ None
  pub front : List Pair
  pub rest : List Pair
  pub splits : sent u.way u.places picks xs ≡ front ++ rest
  pub telling : IsTelling (deal_outs u.way u.places) AbortMsg front ps u.held

-- by whether the in gives and how the deal will end
abbrev pub TiedAt : Bool → End → DealState → List Message → List Pair → Type 0
TiedAt true Eos u g ps = TiedLive u g ps
TiedAt true Abort u g ps = ⊥
TiedAt true Memory u g ps = TiedCut u g ps
TiedAt false Eos u g ps = TiedShut u g ps
TiedAt false Abort u g ps = TiedCut u g ps × ((u.told ≡ true) ⊎ HasAbort g)
TiedAt false Memory u g ps = TiedCut u g ps

abbrev pub Tied : DealState → List Message → List Pair → Type 0
Tied u g ps = TiedAt u.live u.end u g ps

-- a deal and its ports, as every run leaves them
pub record IsTied (u : DealState) (gots puts : List (List Message)) : Type 0 where
  pub some : 1 ≤ u.places
  pub turn : u.turn < u.places
  pub done : u.done ≡ true → (u.free ≡ None) × (u.held ≡ []) × (u.live ≡ false)
  pub got : List Message
  pub gots_are : gots ≡ got ∷ []
  pub given : List Pair
  pub puts_are : ArePut (deal_outs u.way u.places) puts given
  pub tied : Tied u got given
